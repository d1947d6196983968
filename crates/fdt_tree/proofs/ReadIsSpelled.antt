-- What is read is what is spelled.
use Rattle.std.proofs.Common.{◌≡◌, ℕ, List, length, Result, Ok, refl, sym, ap, ◌∙◌, arith}
use Rattle.refusal.proofs.AnswersInTurn.{bind-ok}
use Rattle.fdt_header.specs.declared.fault.FdtFault.{FdtFault}
use Rattle.fdt_header.specs.declared.header.Header.{Header}
use Rattle.fdt_tree.specs.declared.tree.Reservation.{Reservation}
use Rattle.refusal.specs.Answer.{◌>>=◌}
use Rattle.fdt_tree.specs.Devicetree.{Devicetree, Token, root_tokens}
use Rattle.fdt_header.specs.Blocks.{reserve_block, structure_block, strings_block, header_at}
use Rattle.fdt_tree.specs.Reservations.{reservations_at}
use Rattle.fdt_tree.specs.Scanning.{structure_at}
use Rattle.fdt_tree.specs.Reading.{Spells, Parts, parts_of, parts_at}
use Rattle.fdt_tree.specs.Wholeness.{IsWhole}
use Rattle.fdt_tree.proofs.SpellingOfScan.{IsBytes}
use Rattle.fdt_tree.proofs.SpellingOfToken.{IsBytes-drop, IsBytes-take}
use Rattle.fdt_header.proofs.HeaderIsSpelled.{header_takes, header_again}
use Rattle.fdt_tree.proofs.ReservationsAreSpelled.{pairs_again, pairs_take, spelled_are}
use Rattle.fdt_tree.proofs.ScanIsSpelling.{spelled_scans, scan_spells, same_root}

-- what is spelled is found
pub spelled_reads : (bytes : List ℕ) (t : Devicetree) → Spells bytes t → parts_at bytes ≡ Ok (parts_of t)
unfolding parts_at
spelled_reads bytes t s =
    let pairs : reservations_at (reserve_block s.header bytes) ≡ Ok t.reservations =
    pairs_again t.reservations (reserve_block s.header bytes) (length (reserve_block s.header bytes)) s.reservations (omega arith) in
    let tokens : structure_at (strings_block s.header bytes) (structure_block s.header bytes) ≡ Ok (root_tokens t.root) =
    spelled_scans (strings_block s.header bytes) (structure_block s.header bytes) t.root s.root in
    rw (header_again bytes s.header s.sound, pairs, tokens, s.boot_cpu) refl

same_parts : (p q : Parts) → (let x : Result Parts FdtFault = Ok p in x) ≡ Ok q → p ≡ q
same_parts p q h = cc

-- the parts that are read, from the header, the reservations and the tokens
abbrev pub behind_tokens : Header → List Reservation → List Token → Result Parts FdtFault
behind_tokens h rs ts = Ok (record { reservations = rs; boot_cpu = h.boot_cpuid_phys; tokens = ts })

-- what is found is spelled
pub reads_spelled : (bytes : List ℕ) (t : Devicetree) → IsBytes bytes → parts_at bytes ≡ Ok (parts_of t) → Spells bytes t
unfolding parts_at
reads_spelled bytes t fits e =
    let tokens_in : Header → Result (List Token) FdtFault = λ h. structure_at (strings_block h bytes) (structure_block h bytes) in
    let a = bind-ok (header_at bytes) (λ h. reservations_at (reserve_block h bytes) >>= λ rs. tokens_in h >>= behind_tokens h rs) (parts_of t) e in
    let h = a.0 in
    let b = bind-ok (reservations_at (reserve_block h bytes)) (λ rs. tokens_in h >>= behind_tokens h rs) (parts_of t) a.2 in
    let c = bind-ok (tokens_in h) (behind_tokens h b.0) (parts_of t) b.2 in
    let same = same_parts (record { reservations = b.0; boot_cpu = h.boot_cpuid_phys; tokens = c.0 }) (parts_of t) c.2 in
    let pairs : reservations_at (reserve_block h bytes) ≡ Ok t.reservations = b.1 ∙ ap (λ (p : Parts). Ok p.reservations) same in
    let tokens : tokens_in h ≡ Ok (root_tokens t.root) = c.1 ∙ ap (λ (p : Parts). Ok p.tokens) same in
    let reserve_fits : IsBytes (reserve_block h bytes) = IsBytes-drop h.off_mem_rsvmap _ (IsBytes-take h.totalsize bytes fits) in
    let block_fits : IsBytes (structure_block h bytes) = IsBytes-take h.size_dt_struct _ (IsBytes-drop h.off_dt_struct bytes fits) in
    record {
      header = h;
      sound = header_takes bytes h a.1;
      boot_cpu = ap (λ (p : Parts). p.boot_cpu) (sym same);
      reservations = pairs_take (length (reserve_block h bytes)) (reserve_block h bytes) t.reservations reserve_fits pairs;
      root = scan_spells (strings_block h bytes) (structure_block h bytes) t.root block_fits tokens;
    }

pub same_tree : (t u : Devicetree) → parts_of t ≡ parts_of u → t ≡ u
same_tree t u e =
    let reservations : t.reservations ≡ u.reservations = ap (λ (p : Parts). p.reservations) e in
    let boot_cpu : t.boot_cpu ≡ u.boot_cpu = ap (λ (p : Parts). p.boot_cpu) e in
    let root : t.root ≡ u.root = same_root t.root u.root (ap (λ (p : Parts). p.tokens) e) in
    rw (reservations, boot_cpu, root) refl

-- the same bytes spell at most one tree
pub one_tree : (bytes : List ℕ) (t u : Devicetree) → Spells bytes t → Spells bytes u → t ≡ u
one_tree bytes t u a b = same_tree t u (same_parts (parts_of t) (parts_of u) (sym (spelled_reads bytes t a) ∙ spelled_reads bytes u b))

pub spelled_whole : (bytes : List ℕ) (t : Devicetree) → Spells bytes t → IsWhole t
spelled_whole bytes t s = record { reservations = spelled_are t.reservations _ s.reservations; properties = s.root.properties; children = s.root.children }
