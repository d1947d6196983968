-- Lists of granules, one by one: whether one comes twice.
use Rattle.std.proofs.Common.{◌≡◌, ℕ, ◌+◌, ◌<◌, ◌≤◌, refl, false, ◌||◌, List, length, drop, get_or, add-one}
use Rattle.std.proofs.Math.Seq.{drop-cons}
use Rattle.std.proofs.Math.ListN.{drop_of_length-le}
use Rattle.rmm_model.specs.Space.{has}
use Rattle.rmm_model.specs.Owners.{repeats}

pub repeats-next : (gs : List ℕ) (i : ℕ) → i < length gs → repeats (drop i gs) ≡ has (drop (i + 1) gs) (get_or gs i 0) || repeats (drop (i + 1) gs)
repeats-next gs i lt = rw (add-one, drop-cons gs i 0 lt) refl

pub repeats-end : (gs : List ℕ) (i : ℕ) → length gs ≤ i → repeats (drop i gs) ≡ false
repeats-end gs i past = rw (drop_of_length-le gs past) refl
