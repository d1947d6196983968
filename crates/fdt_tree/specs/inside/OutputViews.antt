-- What has been written of a tree, and how long it is. This project's choice.
use Rattle.std.specs.Prelude.{◌≡◌, ℕ, ◌+◌, ◌≤◌, List, ◌++◌, length, map}
use Rattle.fdt_tree.specs.declared.node.Property.{Property}
use Rattle.fdt_tree.specs.declared.node.Node.{Node}
use Rattle.fdt_tree.specs.declared.writing.Output.{Output}
use Rattle.fdt_tree.specs.declared.writing.Lengths.{Lengths}
use Rattle.fdt_tree.specs.Devicetree.{Token, property, tokens, joined}
use Rattle.fdt_tree.specs.NodeViews.{property_data, branches}
use Rattle.fdt_tree.specs.Writing.{names_after, text_after, strings_text}
use Rattle.fdt_tree.specs.inside.NameTables.{HasNames}
use Rattle.fdt_header.specs.declared.header.TheConstants.{HEADER_SIZE, SIZE_LIMIT}

-- the tokens were appended, and the table has their names too
pub record HasTokens (strings : List ℕ) (old new : Output) (names : List (List ℕ)) (ts : List Token) : Type 0 where
  pub text : new.structure.items ≡ old.structure.items ++ text_after names ts
  pub known : HasNames strings new.names (names_after names ts)

-- how many bytes the tokens take, with all names so far
abbrev pub size_of : List (List ℕ) → List Token → ℕ
size_of names ts = length (text_after names ts) + length (strings_text (names_after names ts))

-- the tokens of properties, and of nodes, in memory
abbrev pub tokens_of_properties : List ℕ → List Property → List Token
tokens_of_properties strings ps = map property (map (property_data strings) ps)

abbrev pub tokens_of_nodes : List ℕ → List Node → List Token
tokens_of_nodes strings ns = tokens (joined (branches strings ns))

-- these are the lengths of blocks that are not too long
pub record AreLengths (l : Lengths) (reserve structure strings : ℕ) : Type 0 where
  pub reserve_is : l.reserve ≡ reserve
  pub structure_is : l.structure ≡ structure
  pub strings_is : l.strings ≡ strings
  pub fits : HEADER_SIZE + reserve + structure + strings ≤ SIZE_LIMIT
