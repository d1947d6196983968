-- A header is found where it is spelled, and nowhere else.
use Rattle.std.proofs.Common.{◌^◌, ◌≡◌, ℕ, ◌+◌, ◌%◌, ◌≤◌, true, false, ltb, leb, eqb, List, length, Result, Ok, refl, sym, ap, subst, ◌∙◌}
use Rattle.std.proofs.lemmas.Bool.{leb-true, ltb-false, le-ltb, le-leb, eqb-true, eq-eqb, and_parts}
use Rattle.fdt_header.specs.declared.fault.FdtFault.{FdtFault}
use Rattle.fdt_header.specs.declared.fault.FdtFault.TheVariants.{Short, BadMagic, BadVersion, TooLarge, BadBlock}
use Rattle.fdt_header.specs.declared.header.Header.{Header}
use Rattle.fdt_header.specs.Blocks.{BlocksFit, HasHeader, word_at, header_of, blocks_fit, is_known_version, header_at}
use Rattle.fdt_header.proofs.Checks.{unless, only_if}

-- what the test of the blocks means
pub blocks_take : (h : Header) (len : ℕ) → blocks_fit h len ≡ true → BlocksFit h len
blocks_take h len e =
    let g = and_parts _ (leb (h.off_dt_strings + h.size_dt_strings) h.totalsize) e in
    let f = and_parts _ (leb (h.off_dt_struct + h.size_dt_struct) h.totalsize) g.0 in
    let d = and_parts _ (leb h.off_mem_rsvmap h.totalsize) f.0 in
    let c = and_parts _ (eqb (h.off_mem_rsvmap % 8) 0) d.0 in
    let b = and_parts _ (eqb (h.off_dt_struct % 4) 0) c.0 in
    let a = and_parts (leb 40 h.totalsize) (leb h.totalsize len) b.0 in
    record {
      own = leb-true _ _ a.0;
      whole = leb-true _ _ a.1;
      structure_aligned = eqb-true _ _ b.1;
      reserve_aligned = eqb-true _ _ c.1;
      reserve = leb-true _ _ d.1;
      structure = leb-true _ _ f.1;
      strings = leb-true _ _ g.1;
    }

blocks_again : (h : Header) (len : ℕ) → BlocksFit h len → blocks_fit h len ≡ true
blocks_again h len b =
    rw (
      le-leb 40 h.totalsize b.own,
      le-leb h.totalsize len b.whole,
      eq-eqb (h.off_dt_struct % 4) 0 b.structure_aligned,
      eq-eqb (h.off_mem_rsvmap % 8) 0 b.reserve_aligned,
      le-leb h.off_mem_rsvmap h.totalsize b.reserve,
      le-leb
          (h.off_dt_struct + h.size_dt_struct) h.totalsize b.structure,
      le-leb (h.off_dt_strings + h.size_dt_strings) h.totalsize b.strings,
    ) refl

pub header_takes : (bytes : List ℕ) (h : Header) → header_at bytes ≡ Ok h → HasHeader bytes h
unfolding header_at
header_takes bytes h e =
    let own = header_of bytes in
    let a = unless (ltb (length bytes) 40) Short _ h e in
    let b = only_if (eqb (word_at 0 bytes) 0xd00dfeed) BadMagic _ h a.1 in
    let c = only_if (is_known_version own) BadVersion _ h b.1 in
    let d = unless (ltb (2 ^ 21) (length bytes)) TooLarge _ h c.1 in
    let f = only_if (blocks_fit own (length bytes)) BadBlock (Ok own) h d.1 in
    let v = and_parts (eqb own.version 17) (leb own.last_comp_version 17) c.0 in
    let same : own ≡ h = is own h f.1 in
    subst (λ (x : Header). HasHeader bytes x) same (record {
      fields = refl;
      long = ltb-false _ _ a.0;
      magic = eqb-true _ _ b.0;
      version = eqb-true _ _ v.0;
      compatible = leb-true _ _ v.1;
      small = ltb-false _ _ d.0;
      blocks = blocks_take own (length bytes) f.0;
    })
  where
    is : (a b : Header) → (let x : Result Header FdtFault = Ok a in x) ≡ Ok b → a ≡ b
    is a b q = cc

pub header_again : (bytes : List ℕ) (h : Header) → HasHeader bytes h → header_at bytes ≡ Ok h
unfolding header_at
header_again bytes h s =
    let own = header_of bytes in
    let long : ltb (length bytes) 40 ≡ false = le-ltb _ _ s.long in
    let magic : eqb (word_at 0 bytes) 0xd00dfeed ≡ true = eq-eqb _ _ s.magic in
    let version : eqb own.version 17 ≡ true = eq-eqb _ _ (ap (λ (x : Header). x.version) (sym s.fields) ∙ s.version) in
    let compatible : leb own.last_comp_version 17 ≡ true = le-leb _ _ (subst (λ (x : Header). x.last_comp_version ≤ 17) s.fields s.compatible) in
    let small : ltb (2 ^ 21) (length bytes) ≡ false = le-ltb _ _ s.small in
    let fits : blocks_fit own (length bytes) ≡ true = blocks_again own (length bytes) (subst (λ (x : Header). BlocksFit x (length bytes)) s.fields s.blocks) in
    rw (long, magic, version, compatible, small, fits) (ap (λ (x : Header). Ok x) (sym s.fields))
