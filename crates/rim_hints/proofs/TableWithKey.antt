-- The place of a fault: a table, and then its key.
use Rattle.std.proofs.Common.{◌≡◌, ◌∙◌, List, ℕ, Option, Some, None, ap}
use Rattle.std.specs.Prelude.{IfSome, option_map}

-- what is made of the text of a table is made of what is known of it
pub placed : (table : Option (List ℕ)) (shown : List ℕ → List ℕ) (bytes text : List ℕ) → IfSome table (λ known. bytes ≡ known) → text ≡ shown bytes
    → IfSome (option_map shown table) (λ known. text ≡ known)
placed None shown bytes text same is = tt
placed (Some known) shown bytes text same is = is ∙ ap shown same
