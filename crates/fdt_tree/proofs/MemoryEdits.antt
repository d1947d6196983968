-- What setting the memory makes of a tree.
use Rattle.std.proofs.Common.{◌≡◌, ℕ, zero, suc, ◌+◌, ◌/◌, ◌%◌, ◌<◌, Bool, true, false, cond, nat_lt, eqb, IsTrue, List, [], ◌∷◌, length, codes, Result, Ok}
use Rattle.std.proofs.Common.{Err, OnOk, OnErr, IsOk, refl, sym, ap, ◌∙◌, arith}
use Rattle.std.specs.Fmt.{digits, digits_onto, digit_glyph}
use Rattle.std.proofs.lemmas.Bool.{lt-ltb, ne_eqb}
use Rattle.fdt_header.specs.declared.fault.FdtFault.{FdtFault}
use Rattle.fdt_tree.specs.declared.tree.Reservation.{Reservation}
use Rattle.fdt_tree.specs.declared.node.Node.{Node}
use Rattle.fdt_tree.specs.Devicetree.{Branch, branch_of_root}
use Rattle.fdt_tree.specs.Names.{is_name_character, all_name_characters, legal}
use Rattle.fdt_tree.specs.NodeViews.{branch, root_of}
use Rattle.fdt_tree.specs.Wholeness.{IsWhole}
use Rattle.fdt_tree.specs.Edits.{with_root}
use Rattle.fdt_tree.specs.Memory.{reg_value, names_memory, memory_name, reg_put, new_memory, memory_put, set_memory_at}
use Rattle.fdt_tree.proofs.TreeEdits.{values_legal, first_legal, tree_with}

-- ---- the name of a new node is legal

character_is : (c : ℕ) → 47 < c → c < 127 → is_name_character c ≡ true
character_is c low high =
    let a : nat_lt 32 c ≡ true = lt-ltb 32 c (omega arith) in
    let b : nat_lt c 127 ≡ true = lt-ltb c 127 high in
    let d : eqb c 47 ≡ false = ne_eqb c 47 (omega arith) in
    rw (a, b, d) refl

glyph_character : (d : ℕ) → d < 16 → is_name_character (digit_glyph false d) ≡ true
glyph_character d small = go (nat_lt d 10)
  where
    go : (b : Bool) → is_name_character (cond b (48 + d) (87 + d)) ≡ true
    go true = character_is (48 + d) (omega arith) (omega arith)
    go false = character_is (87 + d) (omega arith) (omega arith)

digits_characters : (k n : ℕ) (acc : List ℕ) → all_name_characters acc ≡ true → all_name_characters (digits_onto k 16 false n acc) ≡ true
digits_characters zero n acc h = h
digits_characters (suc k) n acc h =
    let g : is_name_character (digit_glyph false (n % 16)) ≡ true = glyph_character (n % 16) (omega arith) in
    let more : all_name_characters (digit_glyph false (n % 16) ∷ acc) ≡ true = rw g h in
    go (eqb (n / 16) 0) more (digits_characters k (n / 16) (digit_glyph false (n % 16) ∷ acc) more)
  where
    go : (b : Bool) → all_name_characters (digit_glyph false (n % 16) ∷ acc) ≡ true
        → all_name_characters (digits_onto k 16 false (n / 16) (digit_glyph false (n % 16) ∷ acc)) ≡ true
        → all_name_characters (cond b (digit_glyph false (n % 16) ∷ acc) (digits_onto k 16 false (n / 16) (digit_glyph false (n % 16) ∷ acc))) ≡ true
    go true one more = one
    go false one more = more

hex_characters : (n : ℕ) → all_name_characters (digits 16 false n) ≡ true
unfolding digits
hex_characters n = digits_characters 64 n [] refl

memory_legal : (base : ℕ) → IsTrue (legal (memory_name base))
memory_legal base =
    let some : nat_lt 0 (length (memory_name base)) ≡ true = lt-ltb 0 (length (memory_name base)) (omega arith) in
    rw some (hex_characters base)

-- ---- the tree

pub memory_done : (base size : ℕ) (reg s : List ℕ) (rs : List Reservation) (boot : ℕ) (old new : Node) → reg_value base size (branch s old).properties ≡ Ok reg
    → (branch s old).name ≡ [] → branch s new ≡ memory_put base reg (branch s old)
    → set_memory_at base size (tree_with rs boot s old) ≡ Ok (tree_with rs boot s new)
unfolding set_memory_at
memory_done base size reg s rs boot old new e unnamed made =
    let t = tree_with rs boot s old in
    let named : branch_of_root (root_of s old) ≡ branch s old =
    ap (λ (n : List ℕ). let b : Branch = record { name = n; properties = (branch s old).properties; children = (branch s old).children } in b)
    (sym unnamed) in
    rw e (ap (λ (b : Branch). Ok (with_root t b)) (ap (memory_put base reg) named ∙ sym made))

pub may_be_put : (base size : ℕ) (reg s : List ℕ) (rs : List Reservation) (boot : ℕ) (old : Node) → reg_value base size (branch s old).properties ≡ Ok reg
    → IsOk (set_memory_at base size (tree_with rs boot s old))
unfolding set_memory_at
may_be_put base size reg s rs boot old e = rw e refl

pub memory_refused : (base size : ℕ) (s : List ℕ) (rs : List Reservation) (boot : ℕ) (old : Node) (e : FdtFault)
    → reg_value base size (branch s old).properties ≡ Err e → set_memory_at base size (tree_with rs boot s old) ≡ Err e
unfolding set_memory_at
memory_refused base size s rs boot old e h = rw h refl

memory_whole : (base : ℕ) (reg s : List ℕ) (rs : List Reservation) (boot : ℕ) (old new : Node) → branch s new ≡ memory_put base reg (branch s old)
    → IsWhole (tree_with rs boot s old) → IsWhole (tree_with rs boot s new)
memory_whole base reg s rs boot old new made w =
    let children =
    first_legal 1 names_memory (reg_put reg) (new_memory base reg) (branch s old).children (omega arith) (memory_legal base) ((refl, (refl, tt)), tt)
    (λ b h. (refl, (values_legal (codes "reg") reg b.properties refl h.0, h.1))) w.children in
    record { reservations = w.reservations; properties = rw made w.properties; children = rw made children }

pub either_memory : {E : Type 0} (r : Result (Unit {0}) E) (base : ℕ) (reg s : List ℕ) (rs : List Reservation) (boot : ℕ) (old new : Node)
    → OnOk r (branch s new ≡ memory_put base reg (branch s old)) → OnErr r (branch s new ≡ branch s old) → IsWhole (tree_with rs boot s old)
    → IsWhole (tree_with rs boot s new)
either_memory (Ok x) base reg s rs boot old new done kept w = memory_whole base reg s rs boot old new done w
either_memory (Err e) base reg s rs boot old new done kept w = record {
  reservations = w.reservations;
  properties = rw kept w.properties;
  children = rw kept w.children;
}

pub either_memory_unnamed : {E : Type 0} (r : Result (Unit {0}) E) (base : ℕ) (reg s : List ℕ) (old new : Node)
    → OnOk r (branch s new ≡ memory_put base reg (branch s old)) → OnErr r (branch s new ≡ branch s old) → (branch s old).name ≡ [] → (branch s new).name ≡ []
either_memory_unnamed (Ok x) base reg s old new done kept unnamed = rw done unnamed
either_memory_unnamed (Err e) base reg s old new done kept unnamed = rw kept unnamed
