-- What a new value makes of a tree.
use Rattle.std.proofs.Common.{◌≡◌, ℕ, ◌+◌, ◌<◌, Bool, true, false, cond, ◌&&◌, nat_lt, IsTrue, List, [], ◌∷◌, length, Result, Ok, Err, IsOk, OnOk, OnErr, refl}
use Rattle.std.proofs.Common.{sym, ap, ◌∙◌, arith}
use borrow.Author.Tests.{ltb-true}
use Rattle.std.specs.Str.{bytes_eq}
use Rattle.fdt_header.specs.declared.fault.FdtFault.{FdtFault}
use Rattle.fdt_header.specs.declared.fault.FdtFault.TheVariants.{BadName, TooDeep}
use Rattle.fdt_tree.specs.declared.tree.Reservation.{Reservation}
use Rattle.fdt_tree.specs.declared.node.Node.{Node}
use Rattle.fdt_tree.specs.Devicetree.{PropertyData, Nodes, none, node, Branch, Devicetree, branch_of_root, bare}
use Rattle.fdt_tree.specs.Names.{legal, AreLegal, IsLegal}
use Rattle.fdt_tree.specs.NodeViews.{branch, root_of}
use Rattle.fdt_tree.specs.Wholeness.{IsWhole}
use Rattle.fdt_tree.specs.Lookup.{names_on}
use Rattle.fdt_tree.specs.Edits.{with_value, value_put, first_such, in_front_of, edited_below, all_legal, root_in, with_root, path_names, check_names, set_at}

-- ---- what is legal stays legal

pub values_legal : (name value : List ℕ) (es : List PropertyData) → IsTrue (legal name) → AreLegal es → AreLegal (with_value name value es)
values_legal name value [] good h = (good, tt)
values_legal name value (e ∷ es) good h = go (bytes_eq e.name name) (values_legal name value es good h.1)
  where
    go : (b : Bool) → AreLegal (with_value name value es)
        → AreLegal (cond b (let w : List PropertyData = record { name = e.name; value = value } ∷ es in w) (e ∷ with_value name value es))
    go true ih = (h.0, h.1)
    go false ih = (h.0, ih)

-- what is inside a node of this depth
abbrev pub IsLegalBranch : ℕ → Branch → Type 0
IsLegalBranch depth b = AreLegal b.properties × IsLegal depth b.children

-- a change that keeps the name and what is legal
abbrev Keeps : ℕ → (Branch → Branch) → Type 0
Keeps depth edit = (b : Branch) → IsLegalBranch depth b → ((edit b).name ≡ b.name) × IsLegalBranch depth (edit b)

pub first_legal : (depth : ℕ) (test : List ℕ → Bool) (edit : Branch → Branch) (new : Branch) (f : Nodes) → depth < 64 → IsTrue (legal new.name)
    → IsLegalBranch (depth + 1) new → Keeps (depth + 1) edit → IsLegal depth f → IsLegal depth (first_such test edit new f)
first_legal depth test edit new none low good whole keeps h = (low, good, whole.0, whole.1, tt)
first_legal depth test edit new (node n es ks next) low good whole keeps h = go (test n) (first_legal depth test edit new next low good whole keeps h.4)
  where
    go : (t : Bool) → IsLegal depth (first_such test edit new next)
        → IsLegal depth (cond t (in_front_of next (edit (record { name = n; properties = es; children = ks }))) (node n es ks (first_such test edit new next)))
    go true ih = let k = keeps (record { name = n; properties = es; children = ks }) (h.2, h.3) in (low, ap legal k.0 ∙ h.1, k.1.0, k.1.1, h.4)
    go false ih = (h.0, h.1, h.2, h.3, ih)

and_left : (a b : Bool) → a && b ≡ true → IsTrue a × IsTrue b
and_left true b e = (refl, e)
and_left false b e = absurd cc

pub edited_keeps : (depth : ℕ) (names : List (List ℕ)) (name value : List ℕ) → depth + length names < 65 → all_legal names ≡ true → IsTrue (legal name)
    → Keeps depth (edited_below names (value_put name value))
edited_keeps depth [] name value deep all good b h = (refl, (values_legal name value b.properties good h.0, h.1))
edited_keeps depth (n ∷ ns) name value deep all good b h =
    let parts = and_left (legal n) (all_legal ns) all in
    let keeps = edited_keeps (depth + 1) ns name value (omega arith) parts.1 good in
    let edit = edited_below ns (value_put name value) in
    let k = keeps (bare n) (tt, tt) in
    (refl, (h.0, first_legal depth (λ x. bytes_eq x n) edit (edit (bare n)) b.children (omega arith) (ap legal k.0 ∙ parts.0) k.1 keeps h.1))

-- ---- what was asked for

pub record Stands (names : List (List ℕ)) (name : List ℕ) : Type 0 where
  pub all : all_legal names ≡ true
  pub good : IsTrue (legal name)
  pub low : length names < 64

pub stands : (names : List (List ℕ)) (name : List ℕ) (u : Unit {0}) → check_names names name ≡ Ok u → Stands names name
stands names name u e = go (all_legal names) (legal name) (nat_lt (length names) 64) refl refl refl e
  where
    go : (a b d : Bool) → all_legal names ≡ a → legal name ≡ b → nat_lt (length names) 64 ≡ d
        → (let r : Result (Unit {0}) FdtFault = cond a (cond b (cond d (Ok tt) (Err TooDeep)) (Err BadName)) (Err BadName) in r) ≡ Ok u → Stands names name
    go true true true x y z e = record { all = x; good = y; low = ltb-true (length names) 64 z }
    go true true false x y z e = absurd cc
    go true false d x y z e = absurd cc
    go false b d x y z e = absurd cc

abbrev pub tree_with : List Reservation → ℕ → List ℕ → Node → Devicetree
tree_with rs boot s n = record { reservations = rs; boot_cpu = boot; root = root_of s n }

pub set_done : (path name value s : List ℕ) (names : List (List ℕ)) (rs : List Reservation) (boot : ℕ) (old new : Node) (u : Unit {0})
    → path_names (names_on path) ≡ Ok names → check_names names name ≡ Ok u
    → (branch s old).name ≡ [] → branch s new ≡ edited_below names (value_put name value) (branch s old)
    → set_at path name value (tree_with rs boot s old) ≡ Ok (tree_with rs boot s new)
unfolding set_at
set_done path name value s names rs boot old new u e f unnamed made =
    let put = edited_below names (value_put name value) in
    let t = tree_with rs boot s old in
    let named : branch_of_root (root_of s old) ≡ branch s old =
    ap (λ (n : List ℕ). let b : Branch = record { name = n; properties = (branch s old).properties; children = (branch s old).children } in b)
    (sym unnamed) in
    rw (e, f) (ap (λ (b : Branch). Ok (with_root t b)) (ap put named ∙ sym made))

pub path_refused : (path name value : List ℕ) (t : Devicetree) (e : FdtFault) → path_names (names_on path) ≡ Err e → set_at path name value t ≡ Err e
unfolding set_at
path_refused path name value t e h = rw h refl

pub name_refused : (path name value : List ℕ) (names : List (List ℕ)) (t : Devicetree) (e : FdtFault) → path_names (names_on path) ≡ Ok names
    → check_names names name ≡ Err e → set_at path name value t ≡ Err e
unfolding set_at
name_refused path name value names t e g h = rw (g, h) refl

-- a root that stays the same
pub tree_kept : (s : List ℕ) (rs : List Reservation) (boot : ℕ) (old new : Node) → branch s new ≡ branch s old
    → tree_with rs boot s new ≡ tree_with rs boot s old
tree_kept s rs boot old new same = ap (λ (b : Branch). let t : Devicetree = record { reservations = rs; boot_cpu = boot; root = root_in b } in t) same

pub may_be_set : (path name value : List ℕ) (names : List (List ℕ)) (t : Devicetree) (u : Unit {0}) → path_names (names_on path) ≡ Ok names
    → check_names names name ≡ Ok u → IsOk (set_at path name value t)
unfolding set_at
may_be_set path name value names t u g h = rw (g, h) refl

pub set_whole : (name value s : List ℕ) (names : List (List ℕ)) (rs : List Reservation) (boot : ℕ) (old new : Node) (u : Unit {0})
    → check_names names name ≡ Ok u
    → branch s new ≡ edited_below names (value_put name value) (branch s old) → IsWhole (tree_with rs boot s old) → IsWhole (tree_with rs boot s new)
set_whole name value s names rs boot old new u f made w =
    let st = stands names name u f in
    let kept = edited_keeps 1 names name value (omega (arith, st.low)) st.all st.good (branch s old) (w.properties, w.children) in
    record { reservations = w.reservations; properties = rw made kept.1.0; children = rw made kept.1.1 }

pub set_unnamed : (name value s : List ℕ) (names : List (List ℕ)) (old new : Node) → branch s new ≡ edited_below names (value_put name value) (branch s old)
    → (branch s old).name ≡ [] → (branch s new).name ≡ []
set_unnamed name value s names old new made unnamed = ap (λ (b : Branch). b.name) made ∙ same names ∙ unnamed
  where
    same : (ns : List (List ℕ)) → (edited_below ns (value_put name value) (branch s old)).name ≡ (branch s old).name
    same [] = refl
    same (n ∷ ns) = refl

-- ---- also where memory was refused

pub either_whole : {E : Type 0} (r : Result (Unit {0}) E) (name value s : List ℕ) (names : List (List ℕ)) (rs : List Reservation) (boot : ℕ)
    (old new : Node) (u : Unit {0}) → check_names names name ≡ Ok u
    → OnOk r (branch s new ≡ edited_below names (value_put name value) (branch s old)) → OnErr r (branch s new ≡ branch s old)
    → IsWhole (tree_with rs boot s old) → IsWhole (tree_with rs boot s new)
either_whole (Ok x) name value s names rs boot old new u f done kept w = set_whole name value s names rs boot old new u f done w
either_whole (Err e) name value s names rs boot old new u f done kept w = record {
  reservations = w.reservations;
  properties = rw kept w.properties;
  children = rw kept w.children;
}

pub either_unnamed : {E : Type 0} (r : Result (Unit {0}) E) (name value s : List ℕ) (names : List (List ℕ)) (old new : Node)
    → OnOk r (branch s new ≡ edited_below names (value_put name value) (branch s old)) → OnErr r (branch s new ≡ branch s old) → (branch s old).name ≡ []
    → (branch s new).name ≡ []
either_unnamed (Ok x) name value s names old new done kept unnamed = set_unnamed name value s names old new done unnamed
either_unnamed (Err e) name value s names old new done kept unnamed = rw kept unnamed
