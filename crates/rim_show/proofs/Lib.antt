-- To prove: the text of a devicetree is the definition's, node by node.
-- Texts that show a devicetree grow child by child.
pub mod TextsOfNodes
