-- What a devicetree is, and the tokens of its nodes: Devicetree Specification 0.4, sections 2.1 to 2.3
-- and 5.4.
use Rattle.std.specs.Prelude.{ℕ, ◌-◌, ◌%◌, List, [], ◌∷◌, ◌++◌, map}
use Rattle.fdt_tree.specs.declared.tree.Reservation.{Reservation}

-- how many bytes pad n bytes to a multiple of 4
abbrev pub padding_of : ℕ → ℕ
padding_of n = (4 - n % 4) % 4

-- a property, as clauses see it
pub record PropertyData : Type 0 where
  pub name : List ℕ
  pub value : List ℕ

-- nodes in order: the name, the properties and the children of the first, and the nodes after it
pub data Nodes : Type 0 where
  none : Nodes
  node : List ℕ → List PropertyData → Nodes → Nodes → Nodes

-- one node by itself
pub record Branch : Type 0 where
  pub name : List ℕ
  pub properties : List PropertyData
  pub children : Nodes

-- a node with nothing in it
abbrev pub bare : List ℕ → Branch
bare name = record { name = name; properties = []; children = none }

-- nodes as siblings
abbrev pub joined : List Branch → Nodes
joined [] = none
joined (b ∷ bs) = node b.name b.properties b.children (joined bs)

-- the root, whose name is empty
pub record Root : Type 0 where
  pub properties : List PropertyData
  pub children : Nodes

abbrev pub branch_of_root : Root → Branch
branch_of_root r = record { name = []; properties = r.properties; children = r.children }

-- what a flattened devicetree holds
pub record Devicetree : Type 0 where
  pub reservations : List Reservation
  pub boot_cpu : ℕ
  pub root : Root

-- The tokens of a structure block: FDT_BEGIN_NODE, FDT_PROP, FDT_END_NODE, FDT_NOP and FDT_END. Their numbers are
-- constants of `reading/lexing.rt`.
pub data Token : Type 0 where
  begin_node : List ℕ → Token
  property : PropertyData → Token
  end_node : Token
  nop : Token
  finish : Token

-- the tokens of nodes, without any NOP: a node's properties come before its children
abbrev pub tokens : Nodes → List Token
tokens none = []
tokens (node name properties children next) =
    begin_node name ∷ (map property properties ++ (tokens children ++ (end_node ∷ tokens next)))

abbrev pub root_tokens : Root → List Token
root_tokens r = tokens (node [] r.properties r.children none)
