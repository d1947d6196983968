use Rattle.std.proofs.Common.{◌^◌, ◌≡◌, ℕ, ◌≤◌, ltb, cond, List, length, Ok, Err, refl, sym, arith, ◌∙◌}
use Rattle.std.proofs.lemmas.Bool.{lt-ltb, le-ltb, eq-eqb}
use Rattle.fdt_header.specs.declared.fault.FdtFault.TheVariants.{BadVersion, TooLarge, BadBlock}
use Rattle.fdt_header.specs.declared.header.Header.{Header}
use Rattle.fdt_header.specs.Blocks.{word_at, header_of, blocks_fit, is_known_version, header_at}
use Rattle.fdt_header.proofs.header.header_in.Goals as goal

-- the checks after that of the magic number
behind_magic : (bytes : List ℕ) (h : Header) → 40 ≤ length bytes → word_at 0 bytes ≡ 0xd00dfeed → h ≡ header_of bytes
    → header_at bytes ≡ cond (is_known_version h)
    (cond (ltb (2 ^ 21) (length bytes)) (Err TooLarge) (cond (blocks_fit h (length bytes)) (Ok h) (Err BadBlock))) (Err BadVersion)
unfolding header_at
behind_magic bytes h long magic same = rw (le-ltb _ _ long, eq-eqb _ _ magic, same) refl

pub returns-then-bytes-lt-HEADER_SIZE-clause-exact : goal.returns-then-bytes-lt-HEADER_SIZE-clause-exact
unfolding header_at
returns-then-bytes-lt-HEADER_SIZE-clause-exact c = rw (lt-ltb (length c.args.bytes.now) 40 (omega arith)) refl

pub returns-then-not-is_known_version-clause-exact :
    goal.returns-then-not-is_known_version-clause-exact
returns-then-not-is_known_version-clause-exact c =
    rw (
      behind_magic c.args.bytes.now c.fields_of-header.result (omega arith) (omega arith) c.fields_of-header.ensures,
      sym c.is_known_version.ensures
          ∙ c.if-not-is_known_version.true,
    ) refl

pub returns-then-bytes-gt-SIZE_LIMIT-clause-exact : goal.returns-then-bytes-gt-SIZE_LIMIT-clause-exact
returns-then-bytes-gt-SIZE_LIMIT-clause-exact c =
    rw (
      behind_magic c.args.bytes.now c.fields_of-header.result (omega arith) (omega arith) c.fields_of-header.ensures,
      sym c.is_known_version.ensures
          ∙ c.if-not-is_known_version.false,
      lt-ltb (2 ^ 21) (length c.args.bytes.now) (omega arith),
    ) refl

pub returns-then-not-blocks_fit-clause-exact : goal.returns-then-not-blocks_fit-clause-exact
returns-then-not-blocks_fit-clause-exact c =
    rw (
      behind_magic c.args.bytes.now c.fields_of-header.result (omega arith) (omega arith) c.fields_of-header.ensures,
      sym c.is_known_version.ensures
          ∙ c.if-not-is_known_version.false,
      le-ltb (2 ^ 21) (length c.args.bytes.now) (omega arith),
      ← c.if-not-blocks_fit.ensures,
    ) refl

pub returns-clause-exact : goal.returns-clause-exact
returns-clause-exact c =
    rw (
      behind_magic c.args.bytes.now c.fields_of-header.result (omega arith) (omega arith) c.fields_of-header.ensures,
      sym c.is_known_version.ensures
          ∙ c.if-not-is_known_version.false,
      le-ltb (2 ^ 21) (length c.args.bytes.now) (omega arith),
      ← c.if-not-blocks_fit.ensures,
    ) refl
