-- The tree that bytes spell, as a function of the bytes, so that other definitions can use it: Devicetree Specification 0.4,
-- section 5.4. The law `tree_at_is_spelled` says that it is the tree of `Spells`.
use Rattle.std.specs.Prelude.{ℕ, List, [], ◌∷◌, Result, Ok}
use Rattle.fdt_header.specs.declared.fault.FdtFault.{FdtFault}
use Rattle.fdt_tree.specs.Devicetree.{PropertyData, Nodes, none, node, Token, begin_node, property, end_node, Root, Devicetree}
use Rattle.fdt_tree.specs.Reading.{Parts, parts_at}
use Rattle.refusal.specs.Answer.{◌>>=◌}

-- a node whose end was read, and whose begin was not read yet: its properties and its children so far
pub record Pending : Type 0 where
  pub properties : List PropertyData
  pub children : Nodes

abbrev pub empty_pending : Pending
empty_pending = record { properties = []; children = none }

-- Reads the token list from its end: `end_node` pushes an empty node, `begin_node` pops it into its parent.
--
-- For instance, the tokens of a root with a property `p` and a child `a` are begin_node "", property p,
-- begin_node "a", end_node, end_node. From the last to the first they make these pending nodes, the
-- innermost first:
--
--     (no token)        {}
--     end_node          {}  {}               the root is pushed
--     end_node          {}  {}  {}           `a` is pushed
--     begin_node "a"    {a}  {}              `a` is popped into the root, as its first child
--     property p        {p, a}  {}
--     begin_node ""     {root}               the root is popped into the outermost
abbrev pub with_token : Token → List Pending → List Pending
with_token end_node around = empty_pending ∷ around
with_token (property e) (inner ∷ around) = record { properties = e ∷ inner.properties; children = inner.children } ∷ around
with_token (begin_node name) (inner ∷ outer ∷ around) =
    record { properties = outer.properties; children = node name inner.properties inner.children outer.children } ∷ around
with_token _ around = around

abbrev pub pending_of : List Token → List Pending
pending_of [] = empty_pending ∷ []
pending_of (t ∷ ts) = with_token t (pending_of ts)

-- the first of nodes, as a root
abbrev pub first_as_root : Nodes → Root
first_as_root none = record { properties = []; children = none }
first_as_root (node name properties children next) = record { properties = properties; children = children }

abbrev pub root_at : List Pending → Root
root_at [] = first_as_root none
root_at (b ∷ around) = first_as_root b.children

abbrev pub tree_of : Parts → Devicetree
tree_of p = record { reservations = p.reservations; boot_cpu = p.boot_cpu; root = root_at (pending_of p.tokens) }

-- the tree, or the first check that fails
abbrev pub tree_at : List ℕ → Result Devicetree FdtFault
tree_at bytes = do
  parts ← parts_at bytes
  Ok (tree_of parts)
