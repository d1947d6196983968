-- What a call answered, beside the answer that its definition gives. This project's choice: a call whose
-- allocator refuses a growth answers one fault for that, here `full`, in place of the definition's answer.
use Rattle.std.specs.Prelude.{◌≡◌, ◌⊎◌, List, ◌++◌, Result, Ok, Err, IsOk}

-- ---- definitions that may refuse

-- go on with what the first part answered; its refusal is the refusal of both
infixl 10 ◌>>=◌
abbrev pub ◌>>=◌ : {A B E : Type 0} → Result A E → (A → Result B E) → Result B E
(Ok x) >>= f = f x
(Err e) >>= f = Err e

-- a list that was made before, and what is still made
abbrev pub with_front : {A E : Type 0} → List A → Result (List A) E → Result (List A) E
with_front front others = others >>= λ xs. Ok (front ++ xs)

-- ---- what a call answered

-- exactly the definition's answer, its value seen by `view`: for a call that takes no memory
abbrev pub Matches : {X Y E : Type 0} → (X → Y) → Result X E → Result Y E → Type 0
Matches view (Ok x) wanted = wanted ≡ Ok (view x)
Matches view (Err e) wanted = wanted ≡ Err e

-- the definition's answer, its value seen by `view`; or `full`
abbrev pub Answers : {X Y E : Type 0} → E → (X → Y) → Result X E → Result Y E → Type 0
Answers full view (Ok x) wanted = wanted ≡ Ok (view x)
Answers full view (Err e) wanted = (e ≡ full) ⊎ (wanted ≡ Err e)

-- A call on a state took the definition's step, from `old` to `new`; or it answered the definition's
-- refusal, or `full` for a step that is not refused, and the state is as before.
abbrev pub Applies : {S U E : Type 0} → E → S → S → Result U E → Result S E → Type 0
Applies full old new (Ok done) wanted = wanted ≡ Ok new
Applies full old new (Err e) wanted = ((e ≡ full) × IsOk wanted ⊎ (wanted ≡ Err e)) × (new ≡ old)
