-- A file that is written is spelled, whatever follows it.
use Rattle.std.proofs.Common.{◌≡◌, ℕ, ◌+◌, ◌%◌, ◌^◌, ◌<◌, ◌≤◌, List, [], ◌∷◌, ◌++◌, length, take, drop, Result, Ok, Err, IfOk, refl, sym, ap, subst, ◌∙◌}
use Rattle.std.proofs.Common.{append_assoc, arith}
use Rattle.std.specs.declared.vec.Vec.{Vec}
use Rattle.std.specs.Int.{w32, to_be_bytes, from_be_bytes}
use Rattle.std.proofs.lemmas.List.{length-append, take_at, drop_at}
use Rattle.std.proofs.lemmas.Nat.{from_be_bytes-to_be_bytes_4}
use Rattle.fdt_header.specs.declared.header.Header.{Header}
use Rattle.fdt_tree.specs.declared.tree.Reservation.{Reservation}
use Rattle.fdt_tree.specs.Devicetree.{Devicetree, root_tokens}
use Rattle.fdt_header.specs.Blocks.{HasHeader, header_of, reserve_block, structure_block, strings_block}
use Rattle.fdt_tree.specs.Reservations.{AreReservations, SpellsReservations, pair_text}
use Rattle.fdt_tree.specs.Grammar.{SpellsRoot}
use Rattle.fdt_tree.specs.Reading.{Spells}
use Rattle.fdt_tree.specs.Wholeness.{IsWhole}
use Rattle.fdt_tree.specs.Writing.{names_after, strings_text, text_after, structure_text, reservations_text, header_text, file_text, written}
use Rattle.fdt_tree.proofs.WrittenTokens.{reservations_len, file_len}
use Rattle.fdt_tree.proofs.WrittenBlocksAreSpelled.{text_again, no_nop_in_root}

reservations_again : (rs : List Reservation) (rest : List ℕ) → AreReservations rs → SpellsReservations (reservations_text rs ++ rest) rs
reservations_again [] rest ok = (rest, refl)
reservations_again (r ∷ rs) rest ok =
    (reservations_text rs ++ rest, ok.0, reservations_again rs rest ok.1, append_assoc (pair_text r) (reservations_text rs) rest)

-- ---- what the header says, and what its numbers cut out

same_header : (h k : Header) → h.totalsize ≡ k.totalsize → h.off_dt_struct ≡ k.off_dt_struct → h.off_dt_strings ≡ k.off_dt_strings
    → h.off_mem_rsvmap ≡ k.off_mem_rsvmap → h.version ≡ k.version → h.last_comp_version ≡ k.last_comp_version → h.boot_cpuid_phys ≡ k.boot_cpuid_phys
    → h.size_dt_strings ≡ k.size_dt_strings → h.size_dt_struct ≡ k.size_dt_struct → h ≡ k
same_header h k whole structure strings reserved version oldest boot_cpu strings_size structure_size =
    rw (whole, structure, strings, reserved, version, oldest, boot_cpu, strings_size, structure_size) refl

middle : (front this behind : List ℕ) (at : ℕ) → length front ≡ at → take (length this) (drop at (front ++ (this ++ behind))) ≡ this
middle front this behind at e = ap (take (length this)) (drop_at front (this ++ behind) at e) ∙ take_at this behind (length this) refl

number_again : (n : ℕ) → n < 2 ^ 32 → n ≡ from_be_bytes w32 (to_be_bytes w32 n)
number_again n lt = sym (from_be_bytes-to_be_bytes_4 n lt)

module _ (boot : ℕ) (reserve structure strings z : List ℕ) where
  abbrev header : Header
  header = record {
    totalsize = 40 + length reserve + length structure + length strings;
    off_dt_struct = 40 + length reserve;
    off_dt_strings = 40 + length reserve + length structure;
    off_mem_rsvmap = 40;
    version = 17;
    last_comp_version = 16;
    boot_cpuid_phys = boot;
    size_dt_strings = length strings;
    size_dt_struct = length structure;
  }

  abbrev file : List ℕ
  file = file_text boot reserve structure strings

  abbrev head : List ℕ
  head = header_text (length reserve) (length structure) (length strings) boot

  len : length (file ++ z) ≡ 40 + length reserve + length structure + length strings + length z
  len = omega (arith, length-append file z, file_len boot reserve structure strings)

  fields : length (file ++ z) ≤ 2 ^ 21 → boot < 2 ^ 32 → header ≡ header_of (file ++ z)
  fields le lt =
      let short = len in
      same_header header (header_of (file ++ z))
      (number_again (40 + length reserve + length structure + length strings) (omega (arith, le, short)))
      (number_again (40 + length reserve) (omega (arith, le, short)))
      (number_again (40 + length reserve + length structure) (omega (arith, le, short)))
      refl refl refl
      (number_again boot lt)
      (number_again (length strings) (omega (arith, le, short)))
      (number_again (length structure) (omega (arith, le, short)))

  reserve_is : reserve_block header (file ++ z) ≡ reserve ++ (structure ++ strings)
  reserve_is = ap (drop 40) (take_at file z (40 + length reserve + length structure + length strings) (file_len boot reserve structure strings))

  structure_is : structure_block header (file ++ z) ≡ structure
  structure_is =
      let shape : file ++ z ≡ (head ++ reserve) ++ (structure ++ (strings ++ z)) = simp append_assoc in
      ap (λ (x : List ℕ). take (length structure) (drop (40 + length reserve) x)) shape
      ∙ middle (head ++ reserve) structure (strings ++ z) (40 + length reserve) (length-append head reserve)

  strings_are : strings_block header (file ++ z) ≡ strings
  strings_are =
      let shape : file ++ z ≡ ((head ++ reserve) ++ structure) ++ (strings ++ z) = simp append_assoc in
      ap (λ (x : List ℕ). take (length strings) (drop (40 + length reserve + length structure) x)) shape
      ∙ middle ((head ++ reserve) ++ structure) strings z (40 + length reserve + length structure)
      (omega (arith, length-append (head ++ reserve) structure, length-append head reserve))

  has_header : length reserve % 4 ≡ 0 → length (file ++ z) ≤ 2 ^ 21 → boot < 2 ^ 32 → HasHeader (file ++ z) header
  has_header aligned le lt =
      let long = len in
      record {
        fields = fields le lt;
        long = omega (arith, long);
        magic = refl;
        version = refl;
        compatible = omega arith;
        small = le;
        blocks = record {
          own = omega arith;
          whole = omega (arith, long);
          structure_aligned = omega (arith, aligned);
          reserve_aligned = refl;
          reserve = omega arith;
          structure = omega arith;
          strings = omega arith;
        };
      }

-- ---- the file

root_again : (t : Devicetree) → IsWhole t → length (structure_text t) < 2 ^ 32 → length (strings_text (names_after [] (root_tokens t.root))) < 2 ^ 32
    → SpellsRoot (strings_text (names_after [] (root_tokens t.root))) (structure_text t) t.root
root_again t whole structure strings =
    let ts = root_tokens t.root in
    record {
      all = ts;
      front = text_after [] ts;
      rest = [];
      parts = refl;
      text = text_again (strings_text (names_after [] ts)) strings [] ts refl (omega (arith, structure, length-append (text_after [] ts) (to_be_bytes w32 9)));
      same = no_nop_in_root t.root;
      properties = whole.properties;
      children = whole.children;
    }

pub written_again : (t : Devicetree) (z : List ℕ) → IsWhole t → t.boot_cpu < 2 ^ 32 → length (written t ++ z) ≤ 2 ^ 21 → Spells (written t ++ z) t
written_again t z whole boot le =
    let reserve = reservations_text t.reservations in
    let structure = structure_text t in
    let strings = strings_text (names_after [] (root_tokens t.root)) in
    let head = header t.boot_cpu reserve structure strings z in
    let bytes = written t ++ z in
    let long = len t.boot_cpu reserve structure strings z in
    let root = root_again t whole (omega (arith, le, long)) (omega (arith, le, long)) in
    record {
      header = head;
      sound = has_header t.boot_cpu reserve structure strings z (omega (arith, reservations_len t.reservations)) le boot;
      boot_cpu = refl;
      reservations =
          subst (λ (x : List ℕ). SpellsReservations x t.reservations) (sym (reserve_is t.boot_cpu reserve structure strings z))
          (reservations_again t.reservations (structure ++ strings) whole.reservations);
      root = subst (λ (x : List ℕ). SpellsRoot (strings_block head bytes) x t.root) (sym (structure_is t.boot_cpu reserve structure strings z))
          (subst (λ (x : List ℕ). SpellsRoot x structure t.root) (sym (strings_are t.boot_cpu reserve structure strings z)) root);
    }

-- the same of what a vector holds
pub again_if_ok : {A E : Type 0} (r : Result (Vec ℕ A) E) (t : Devicetree) → IsWhole t → t.boot_cpu < 2 ^ 32 → IfOk r (λ v. v.items ≡ written t)
    → IfOk r (λ v. (z : List ℕ) → length (v.items ++ z) ≤ 2 ^ 21 → Spells (v.items ++ z) t)
again_if_ok (Ok v) t whole boot e = λ z. subst (λ (x : List ℕ). length (x ++ z) ≤ 2 ^ 21 → Spells (x ++ z) t) (sym e) (written_again t z whole boot)
again_if_ok (Err f) t whole boot e = e
