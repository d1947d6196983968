-- What is spelled is scanned.
use Rattle.std.proofs.Common.{◌≡◌, ℕ, zero, suc, ◌+◌, ◌-◌, ◌%◌, ◌^◌, ◌<◌, Bool, true, false, cond, ltb, eqb, List, [], ◌∷◌, ◌++◌, length, take, drop, Some}
use Rattle.std.proofs.Common.{Result, Ok, Err, refl, sym, ap, ◌∙◌, append_assoc, arith}
use Rattle.std.specs.Prelude.{IsTrue}
use Rattle.std.specs.Int.{w32, to_be_bytes, from_be_bytes}
use Rattle.std.proofs.lemmas.Bool.{le-ltb, lt-ltb, ne_eqb, eqb-true, and_parts}
use Rattle.std.proofs.lemmas.List.{take_at, drop_at, length-append, length-drop, nil_from_length}
use Rattle.std.proofs.lemmas.Nat.{from_be_bytes-to_be_bytes_4}
use Rattle.fdt_header.specs.declared.fault.FdtFault.{FdtFault}
use Rattle.fdt_header.specs.declared.fault.FdtFault.TheVariants.{BadToken, BadString}
use Rattle.fdt_tree.specs.Devicetree.{PropertyData, Token, begin_node, property, end_node, nop, finish}
use Rattle.fdt_tree.specs.declared.reading.place.Place.{Place}
use Rattle.fdt_tree.specs.Scanning.{after, number_at, padded_at, until_zero, legal_at, string_at, name_at, begin_at, property_at, kind_at, token_at, scan}
use Rattle.fdt_tree.specs.Names.{legal, all_name_characters, is_name_character}
use Rattle.fdt_tree.specs.Grammar.{IsPadding, IsStringAt, IsTokenText, IsText, without_nops}
use Rattle.fdt_tree.proofs.AcceptedTokens.{Allowed, Accepts}

abbrev guarded : ℕ → List ℕ → Result (ℕ × List ℕ) FdtFault
guarded k bytes = cond (ltb (length bytes) k) (Err BadToken) (Ok (from_be_bytes w32 (take k bytes), drop k bytes))

-- with the width as a variable: at a numeral the bytes compute to single cells, and rw finds nothing
cut : (xs rest : List ℕ) (k : ℕ) → length xs ≡ k → guarded k (xs ++ rest) ≡ Ok (from_be_bytes w32 xs, rest)
cut xs rest k len =
    let long : ltb (length (xs ++ rest)) k ≡ false = le-ltb _ _ (omega (arith, length-append xs rest)) in
    rw (long, take_at xs rest k len, drop_at xs rest k len) refl

pub number_again : (n : ℕ) (rest : List ℕ) → n < 2 ^ 32 → number_at (to_be_bytes w32 n ++ rest) ≡ Ok (n, rest)
unfolding number_at
number_again n rest lt = cut (to_be_bytes w32 n) rest 4 refl ∙ ap (λ (m : ℕ). Ok (m, rest)) (from_be_bytes-to_be_bytes_4 n lt)

pub padded_again : (text pad rest : List ℕ) → IsPadding (length text) pad → padded_at (length text) (text ++ (pad ++ rest)) ≡ Ok (text, rest)
unfolding padded_at
padded_again text pad rest h =
    let n = length text + (4 - length text % 4) % 4 in
    let len : length (text ++ pad) ≡ n = omega (arith, length-append text pad, h) in
    let whole : text ++ (pad ++ rest) ≡ (text ++ pad) ++ rest = sym (append_assoc text pad rest) in
    let long : ltb (length (text ++ (pad ++ rest))) (length text) ≡ false = le-ltb _ _ (omega (arith, length-append text (pad ++ rest))) in
    let back : drop n (text ++ (pad ++ rest)) ≡ rest = ap (drop n) whole ∙ drop_at (text ++ pad) rest n len in
    rw (long, take_at text (pad ++ rest) (length text) refl, back) refl

-- ---- names

cond_both : (b x : Bool) → cond b x false ≡ true → (b ≡ true) × (x ≡ true)
cond_both true x h = (refl, h)
cond_both false x h = absurd cc

zero_ended : (name rest : List ℕ) → all_name_characters name ≡ true → until_zero (name ++ (0 ∷ rest)) ≡ Some (length name)
zero_ended [] rest h = refl
zero_ended (zero ∷ cs) rest h = absurd cc
zero_ended (suc c ∷ cs) rest h = rw (zero_ended cs rest (cond_both (is_name_character (suc c)) (all_name_characters cs) h).1) refl

pub string_again : (fault : FdtFault) (name rest : List ℕ) → all_name_characters name ≡ true → string_at fault (name ++ (0 ∷ rest)) ≡ Ok name
unfolding string_at
string_again fault name rest h = rw (zero_ended name rest h, string_at, take_at name (0 ∷ rest) (length name) refl) refl

nothing : (name : List ℕ) → eqb (length name) 0 ≡ true → all_name_characters name ≡ true
nothing name h = rw (nil_from_length name (eqb-true _ _ h)) refl

is_true : (b : Bool) → IsTrue b → b ≡ true
is_true b h = h

characters_at : (b : Bool) (name : List ℕ) → cond b (eqb (length name) 0) (legal name) ≡ true → all_name_characters name ≡ true
characters_at true name h = nothing name h
characters_at false name h = (and_parts (ltb 0 (length name)) (all_name_characters name) h).1

begin_again : (p : Place) (name pad rest : List ℕ) → IsPadding (length name + 1) pad → Allowed p (begin_node name)
    → begin_at p (name ++ ((0 ∷ pad) ++ rest)) ≡ Ok (begin_node name, rest)
unfolding begin_at
begin_again p name pad rest h ok =
    let legal_here : legal_at p name ≡ true = is_true _ ok.0 in
    let named : string_at BadToken (name ++ ((0 ∷ pad) ++ rest)) ≡ Ok name =
    string_again BadToken name (pad ++ rest) (characters_at (eqb p.depth 0) name legal_here) in
    let text = name ++ 0 ∷ [] in
    let len : length text ≡ length name + 1 = omega (arith, length-append name (0 ∷ [])) in
    let shape : name ++ ((0 ∷ pad) ++ rest) ≡ text ++ (pad ++ rest) = sym (append_assoc name (0 ∷ []) (pad ++ rest)) in
    let padded : padded_at (length name + 1) (name ++ ((0 ∷ pad) ++ rest)) ≡ Ok (text, rest) =
    ap (padded_at (length name + 1)) shape ∙ ap (λ (n : ℕ). padded_at n (text ++ (pad ++ rest))) (sym len) ∙ padded_again text pad rest (rw len h) in
    let low : ltb p.depth 64 ≡ true = lt-ltb _ _ ok.1 in
    rw (named, padded, legal_here, low) refl

pub inside : (offset : ℕ) (strings name others : List ℕ) → drop offset strings ≡ name ++ (0 ∷ others) → offset < length strings
inside offset strings name others e = omega (arith, ap length e, length-drop offset strings, length-append name (0 ∷ others))

pub name_again : (strings : List ℕ) (offset : ℕ) (name : List ℕ) → IsStringAt strings offset name → legal name ≡ true → name_at strings offset ≡ Ok name
unfolding name_at
name_again strings offset name there legal_here =
    let within : ltb offset (length strings) ≡ true = lt-ltb _ _ (inside offset strings name there.0 there.1) in
    let named : string_at BadString (drop offset strings) ≡ Ok name =
    ap (string_at BadString) there.1 ∙ string_again BadString name there.0 (and_parts (ltb 0 (length name)) (all_name_characters name) legal_here).1 in
    rw (within, named, legal_here) refl

property_again : (strings : List ℕ) (p : Place) (e : PropertyData) (offset : ℕ) (pad rest : List ℕ) → offset < 2 ^ 32 → length e.value < 2 ^ 32
    → IsPadding (length e.value) pad
    → IsStringAt strings offset e.name → Allowed p (property e)
    → property_at strings p (to_be_bytes w32 (length e.value) ++ (to_be_bytes w32 offset ++ (e.value ++ (pad ++ rest)))) ≡ Ok (property e, rest)
unfolding property_at
property_again strings p e offset pad rest o v h there ok =
    let named : name_at strings offset ≡ Ok e.name = name_again strings offset e.name there (is_true _ ok.2) in
    rw (
      number_again (length e.value) (to_be_bytes w32 offset ++ (e.value ++ (pad ++ rest))) v,
      number_again offset (e.value ++ (pad ++ rest)) o,
      padded_again e.value pad rest h,
      ok.1,
      named,
    ) refl

-- ---- a whole text, given each token's law
-- token by token: what the text of a token is read as
abbrev pub ReadsTokens : List ℕ → Type 0
ReadsTokens strings = (p : Place) (t : Token) (text rest : List ℕ) → IsTokenText strings t text → Allowed p t → token_at strings p (text ++ rest) ≡ Ok (t, rest)

nop_again : (strings : List ℕ) (p : Place) (rest : List ℕ) → token_at strings p (to_be_bytes w32 4 ++ rest) ≡ Ok (nop, rest)
unfolding token_at kind_at
nop_again strings p rest = rw (number_again 4 rest (omega arith)) refl

end_again : (strings : List ℕ) (p : Place) (rest : List ℕ) → p.depth ≡ 0 → p.late ≡ true → token_at strings p (to_be_bytes w32 9 ++ rest) ≡ Ok (finish, rest)
unfolding token_at kind_at
end_again strings p rest d l = rw (number_again 9 rest (omega arith), d, l) refl

regroup : (a b c d e f : List ℕ) → (a ++ (b ++ (c ++ (d ++ e)))) ++ f ≡ a ++ (b ++ (c ++ (d ++ (e ++ f))))
regroup a b c d e f = simp append_assoc

begin_kind : (strings rest : List ℕ) (d : ℕ) (late : Bool) → (d ≡ 0 → late ≡ false)
    → kind_at strings (record { depth = d; late = late }) 1 rest ≡ begin_at (record { depth = d; late = late }) rest
unfolding kind_at
begin_kind strings rest zero late h = rw (h refl) refl
begin_kind strings rest (suc d) late h = let z : eqb (suc d) 0 ≡ false = ne_eqb (suc d) 0 (λ e. omega arith) in rw z refl

token_is : (strings : List ℕ) (p : Place) (kind : ℕ) (body : List ℕ) → kind < 2 ^ 32
    → token_at strings p (to_be_bytes w32 kind ++ body) ≡ kind_at strings p kind body
unfolding token_at
token_is strings p kind body lt = rw (number_again kind body lt) refl

pub reads_tokens : (strings : List ℕ) → ReadsTokens strings
unfolding kind_at
reads_tokens strings p (begin_node name) text rest h ok =
    let shape : text ++ rest ≡ to_be_bytes w32 1 ++ (name ++ ((0 ∷ h.0) ++ rest)) =
    ap (λ (x : List ℕ). x ++ rest) h.2 ∙ append_assoc (to_be_bytes w32 1) (name ++ (0 ∷ h.0)) rest
    ∙ ap (λ (x : List ℕ). to_be_bytes w32 1 ++ x) (append_assoc name (0 ∷ h.0) rest) in
    ap (token_at strings p) shape ∙ token_is strings p 1 (name ++ ((0 ∷ h.0) ++ rest)) (omega arith)
    ∙ begin_kind strings (name ++ ((0 ∷ h.0) ++ rest)) p.depth p.late ok.2 ∙ begin_again p name h.0 rest h.1 ok
reads_tokens strings p (property e) text rest h ok =
    let body = to_be_bytes w32 (length e.value) ++ (to_be_bytes w32 h.0 ++ (e.value ++ (h.1 ++ rest))) in
    let shape : text ++ rest ≡ to_be_bytes w32 3 ++ body =
    ap (λ (x : List ℕ). x ++ rest) h.6 ∙ regroup (to_be_bytes w32 3) (to_be_bytes w32 (length e.value)) (to_be_bytes w32 h.0) e.value h.1 rest in
    let third : kind_at strings p 3 body ≡ property_at strings p body = rw (lt-ltb 0 p.depth ok.0) refl in
    ap (token_at strings p) shape ∙ token_is strings p 3 body (omega arith) ∙ third ∙ property_again strings p e h.0 h.1 rest h.2 h.3 h.4 h.5 ok
reads_tokens strings p end_node text rest h ok =
    let two : kind_at strings p 2 rest ≡ Ok (end_node, rest) = rw (lt-ltb 0 p.depth ok) refl in
    ap (λ (x : List ℕ). token_at strings p (x ++ rest)) h ∙ token_is strings p 2 rest (omega arith) ∙ two
reads_tokens strings p nop text rest h ok = ap (λ (x : List ℕ). token_at strings p (x ++ rest)) h ∙ nop_again strings p rest
reads_tokens strings p finish text rest h ok = absurd ok

pub scan_again : (strings : List ℕ) (reads : ReadsTokens strings) (all : List Token) (front rest : List ℕ) (n : ℕ) (p : Place)
    → IsText strings all front → Accepts p (without_nops all) → length all < n
    → scan strings n p (front ++ (to_be_bytes w32 9 ++ rest)) ≡ Ok (without_nops all)
unfolding scan
scan_again strings reads all front rest zero p text ok h = absurd (omega arith)
scan_again strings reads [] front rest (suc n) p text ok h =
    rw text (rw (end_again strings p rest ok.0 ok.1) refl)
scan_again strings reads (nop ∷ ts) front rest (suc n) p text ok h =
    let more = to_be_bytes w32 9 ++ rest in
    let shape : front ++ more ≡ text.0 ++ (text.1 ++ more) = ap (λ (x : List ℕ). x ++ more) text.4 ∙ append_assoc text.0 text.1 more in
    ap (scan strings (suc n) p) shape ∙ rw (reads p nop text.0 (text.1 ++ more) text.2 tt) (scan_again strings reads ts text.1 rest n p text.3 ok (omega arith))
scan_again strings reads (end_node ∷ ts) front rest (suc n) p text ok h =
    let more = to_be_bytes w32 9 ++ rest in
    let shape : front ++ more ≡ text.0 ++ (text.1 ++ more) = ap (λ (x : List ℕ). x ++ more) text.4 ∙ append_assoc text.0 text.1 more in
    let ih = scan_again strings reads ts text.1 rest n (after p end_node) text.3 ok.1 (omega arith) in
    ap (scan strings (suc n) p) shape ∙ rw (reads p end_node text.0 (text.1 ++ more) text.2 ok.0, ih) refl
scan_again strings reads (begin_node name ∷ ts) front rest (suc n) p text ok h =
    let more = to_be_bytes w32 9 ++ rest in
    let shape : front ++ more ≡ text.0 ++ (text.1 ++ more) = ap (λ (x : List ℕ). x ++ more) text.4 ∙ append_assoc text.0 text.1 more in
    let ih = scan_again strings reads ts text.1 rest n (after p (begin_node name)) text.3 ok.1 (omega arith) in
    ap (scan strings (suc n) p) shape ∙ rw (reads p (begin_node name) text.0 (text.1 ++ more) text.2 ok.0, ih) refl
scan_again strings reads (property e ∷ ts) front rest (suc n) p text ok h =
    let more = to_be_bytes w32 9 ++ rest in
    let shape : front ++ more ≡ text.0 ++ (text.1 ++ more) = ap (λ (x : List ℕ). x ++ more) text.4 ∙ append_assoc text.0 text.1 more in
    let ih = scan_again strings reads ts text.1 rest n (after p (property e)) text.3 ok.1 (omega arith) in
    ap (scan strings (suc n) p) shape ∙ rw (reads p (property e) text.0 (text.1 ++ more) text.2 ok.0, ih) refl
scan_again strings reads (finish ∷ ts) front rest (suc n) p text ok h = absurd ok.0
