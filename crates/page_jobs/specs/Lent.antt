-- Which bytes of an item a page lends. This project's choice: a page keeps the bytes that fall in it, and
-- the zeros in front of them are a number.
use Rattle.std.specs.Prelude.{ℕ, ◌-◌, ◌*◌, ◌==◌, List, take, drop, if◌then◌else◌}
use Rattle.rim_desc.specs.declared.page.TheConstants.{PAGE_SIZE}

-- how many zeros are in front of the item's bytes in page k: the lead, in the first page
abbrev pub front_of : ℕ → ℕ → ℕ
front_of lead k = if k == 0 then lead else 0

-- the bytes of the item that fall in page k
abbrev pub lent_of : ℕ → List ℕ → ℕ → List ℕ
lent_of lead item k = take (PAGE_SIZE - front_of lead k) (drop (PAGE_SIZE * k - lead) item)
