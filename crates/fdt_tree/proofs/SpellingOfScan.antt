-- What is scanned is spelled so.
use Rattle.std.proofs.Common.{◌≡◌, ℕ, zero, suc, ◌<◌, ◌≤◌, Bool, true, false, cond, ltb, List, [], ◌∷◌, ◌++◌, length, get_or, take, drop, Ok, Err, refl, sym}
use Rattle.std.proofs.Common.{ap, subst, ◌∙◌, append_assoc, arith}
use Rattle.std.specs.Int.{w32, to_be_bytes, from_be_bytes}
use Rattle.std.proofs.lemmas.Bool.{ltb-false}
use Rattle.refusal.proofs.AnswersInTurn.{bind-ok}
use Rattle.fdt_header.specs.declared.fault.FdtFault.TheVariants.{BadToken}
use Rattle.fdt_tree.specs.Devicetree.{Token, begin_node, property, end_node, nop, finish}
use Rattle.fdt_tree.specs.declared.reading.place.Place.{Place}
use Rattle.fdt_tree.specs.Scanning.{after, number_at, kind_at, token_at, joins, scan}
use Rattle.fdt_tree.specs.Grammar.{IsTokenText, IsText, without_nops}
use Rattle.fdt_tree.proofs.AcceptedTokens.{Allowed, Accepts}

abbrev pub IsBytes : List ℕ → Type 0
IsBytes bytes = (i : ℕ) → get_or bytes i 0 < 256

number_long : (bytes : List ℕ) (x : ℕ × List ℕ) → number_at bytes ≡ Ok x → 0 < length bytes
unfolding number_at
number_long bytes x e = go (ltb (length bytes) 4) refl e
  where
    go : (b : Bool) → ltb (length bytes) 4 ≡ b → cond b (Err BadToken) (Ok (from_be_bytes w32 (take 4 bytes), drop 4 bytes)) ≡ Ok x → 0 < length bytes
    go true h q = absurd cc
    go false h q = let long : 4 ≤ length bytes = ltb-false _ _ h in omega arith

-- tokens are scanned of some bytes
scan_long : (strings : List ℕ) (n : ℕ) (p : Place) (bytes : List ℕ) (ts : List Token) → scan strings n p bytes ≡ Ok ts → 0 < length bytes
unfolding scan token_at
scan_long strings zero p bytes ts e = absurd cc
scan_long strings (suc n) p bytes ts e =
    let a = bind-ok (token_at strings p bytes) (λ t. joins t.0 (scan strings n (after p t.0) t.1)) ts e in
    let b = bind-ok (number_at bytes) (λ kind. kind_at strings p kind.0 kind.1) a.0 a.1 in
    number_long bytes b.0 b.1

-- what a token that is no fault took from the front
pub record Took (strings : List ℕ) (p : Place) (bytes : List ℕ) (t : Token) (rest : List ℕ) : Type 0 where
  pub front : List ℕ
  pub parts : bytes ≡ front ++ rest
  pub text : IsTokenText strings t front
  pub allowed : Allowed p t
  pub rest_fits : IsBytes rest

pub record TookEnd (p : Place) (bytes rest : List ℕ) : Type 0 where
  pub parts : bytes ≡ to_be_bytes w32 9 ++ rest
  pub depth : p.depth ≡ 0
  pub late : p.late ≡ true

abbrev pub TakesTokens : List ℕ → Type 0
TakesTokens strings =
    (p : Place) (t : Token) (bytes rest : List ℕ) → IsBytes bytes → (t ≡ finish → ⊥) → 0 < length rest → token_at strings p bytes ≡ Ok
    (t, rest) → Took strings p bytes t rest

abbrev pub TakesEnd : List ℕ → Type 0
TakesEnd strings = (p : Place) (bytes rest : List ℕ) → IsBytes bytes → token_at strings p bytes ≡ Ok (finish, rest) → TookEnd p bytes rest

-- all the tokens up to END
pub record TookAll (strings : List ℕ) (p : Place) (bytes : List ℕ) (ts : List Token) : Type 0 where
  pub all : List Token
  pub front : List ℕ
  pub rest : List ℕ
  pub parts : bytes ≡ front ++ (to_be_bytes w32 9 ++ rest)
  pub text : IsText strings all front
  pub same : without_nops all ≡ ts
  pub accepted : Accepts p ts

cons : (strings : List ℕ) (p : Place) (bytes : List ℕ) (t : Token) (rest : List ℕ) (new ts : List Token) (own : Took strings p bytes t rest)
    (later : TookAll strings (after p t) rest ts)
    → without_nops (t ∷ later.all) ≡ new → Accepts p new → TookAll strings p bytes new
cons strings p bytes t rest new ts own later same ok = record {
  all = t ∷ later.all;
  front = own.front ++ later.front;
  rest = later.rest;
  parts = own.parts ∙ ap (λ (x : List ℕ). own.front ++ x) later.parts ∙ sym (append_assoc own.front later.front (to_be_bytes w32 9 ++ later.rest));
  text = (own.front, later.front, own.text, later.text, refl);
  same = same;
  accepted = ok;
}

pub scan_takes : (strings : List ℕ) (takes : TakesTokens strings) (takes_end : TakesEnd strings) (n : ℕ) (p : Place) (bytes : List ℕ) (ts : List Token)
    → IsBytes bytes → scan strings n p bytes ≡ Ok ts → TookAll strings p bytes ts
unfolding scan
scan_takes strings takes takes_end zero p bytes ts fits e = absurd cc
scan_takes strings takes takes_end (suc n) p bytes ts fits e =
    let b = bind-ok (token_at strings p bytes) (λ t. joins t.0 (scan strings n (after p t.0) t.1)) ts e in
    go b.0.0 b.0.1 b.1 b.2 (scan_takes strings takes takes_end n)
  where
    go : (t : Token) (rest : List ℕ) → token_at strings p bytes ≡ Ok (t, rest) → joins t (scan strings n (after p t) rest) ≡ Ok ts
        → ((q : Place) (bs : List ℕ) (us : List Token) → IsBytes bs → scan strings n q bs ≡ Ok us → TookAll strings q bs us) → TookAll strings p bytes ts
    go finish rest h more ih =
        let t = takes_end p bytes rest fits h in
        let none_left : [] ≡ ts = cc in
        subst (λ (us : List Token). TookAll strings p bytes us) none_left
        (record { all = []; front = []; rest = rest; parts = t.parts; text = refl; same = refl; accepted = (t.depth, t.late) })
    go nop rest h more ih =
        let own = takes p nop bytes rest fits (λ q. cc) (scan_long strings n p rest ts more) h in
        let later = ih p rest ts own.rest_fits more in
        cons strings p bytes nop rest ts ts own later later.same later.accepted
    go end_node rest h more ih =
        let b = bind-ok (scan strings n (after p end_node) rest) (λ us. Ok (end_node ∷ us)) ts more in
        let own = takes p end_node bytes rest fits (λ q. cc) (scan_long strings n (after p end_node) rest b.0 b.1) h in
        let later = ih (after p end_node) rest b.0 own.rest_fits b.1 in
        let whole : end_node ∷ b.0 ≡ ts = cc (b.2) in
        cons strings p bytes end_node rest ts b.0 own later (ap (λ (us : List Token). end_node ∷ us) later.same ∙ whole)
        (subst (λ (us : List Token). Accepts p us) whole (own.allowed, later.accepted))
    go (begin_node name) rest h more ih =
        let b = bind-ok (scan strings n (after p (begin_node name)) rest) (λ us. Ok (begin_node name ∷ us)) ts more in
        let own = takes p (begin_node name) bytes rest fits (λ q. cc) (scan_long strings n (after p (begin_node name)) rest b.0 b.1) h in
        let later = ih (after p (begin_node name)) rest b.0 own.rest_fits b.1 in
        let whole : begin_node name ∷ b.0 ≡ ts = cc (b.2) in
        cons strings p bytes (begin_node name) rest ts b.0 own later (ap (λ (us : List Token). begin_node name ∷ us) later.same ∙ whole)
        (subst (λ (us : List Token). Accepts p us) whole (own.allowed, later.accepted))
    go (property x) rest h more ih =
        let b = bind-ok (scan strings n p rest) (λ us. Ok (property x ∷ us)) ts more in
        let own = takes p (property x) bytes rest fits (λ q. cc) (scan_long strings n p rest b.0 b.1) h in
        let later = ih p rest b.0 own.rest_fits b.1 in
        let whole : property x ∷ b.0 ≡ ts = cc (b.2) in
        cons strings p bytes (property x) rest ts b.0 own later (ap (λ (us : List Token). property x ∷ us) later.same ∙ whole)
        (subst (λ (us : List Token). Accepts p us) whole (own.allowed, later.accepted))
