-- What the fields of a plan keep. This project's choice.
use Rattle.std.specs.Prelude.{◌≡◌, ℕ, List, length}
use Rattle.std.specs.List.{All}
use Rattle.launch_plan.specs.Fitting.{BeginsItem, IsFitting}
use Rattle.launch_plan.specs.Links.{keys_of}
use Rattle.launch_plan.specs.declared.link.Link.{Link}

-- links that fit, whose pages are the first ones of their items, with this many measured pages
pub record AreLinks (links : List Link) (n : ℕ) : Type 0 where
  pub fit : All IsFitting links
  pub begin : All BeginsItem links
  pub pages : n ≡ length (keys_of links)
