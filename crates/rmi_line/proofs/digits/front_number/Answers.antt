use Rattle.std.proofs.Common.{◌≡◌, inl, inr, get_or, ap, ◌∙◌, arith}
use Rattle.rmi_line.specs.inside.Digits.{decimal_value}
use Rattle.rmi_line.proofs.ShortDecimal.{front_values, value_in}
use Rattle.rmi_line.proofs.digits.front_number.Goals as goal
use Rattle.rmi_line.proofs.digits.front_number.Goals.{then-second-gt9, else-second-gt9+then-third-gt9, else-second-gt9+else-third-gt9}

pub returns : goal.returns
returns c = λ n others fits same.
    let first : c.value_at-first.result ≡ value_in n others 1 = c.value_at-first.ensures ∙ ap (λ rest. decimal_value (get_or rest 1 0)) same in
    let second : c.value_at-second.result ≡ value_in n others 2 = c.value_at-second.ensures ∙ ap (λ rest. decimal_value (get_or rest 2 0)) same in
    let third : c.value_at-third.result ≡ value_in n others 3 = c.value_at-third.ensures ∙ ap (λ rest. decimal_value (get_or rest 3 0)) same in
    elim c.if-second-gt9.branch [
      | then-second-gt9 w ↦ elim (front_values n others fits) [ inl (inl v) ↦ omega arith | inl (inr v) ↦ omega arith | inr v ↦ omega arith ]
      | else-second-gt9+then-third-gt9 w ↦ elim (front_values n others fits) [ inl (inl v) ↦ omega arith | inl (inr v) ↦ omega arith | inr v ↦ omega arith ]
      | else-second-gt9+else-third-gt9 w ↦ elim (front_values n others fits) [ inl (inl v) ↦ omega arith | inl (inr v) ↦ omega arith | inr v ↦ omega arith ]
    ]
