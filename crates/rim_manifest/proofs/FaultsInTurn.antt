-- Faults that are found one after another, and what is kept of them in the end.
use Rattle.std.proofs.Common.{◌≡◌, inl, inr, ℕ, ◌+◌, ◌<◌, ◌≤◌, List, [], ◌∷◌, ◌++◌, length, get_or}
use Rattle.std.proofs.Common.{drop, map, Bool, true, false, Option, Some, None, refl, ap, append_assoc}
use Rattle.std.proofs.Common.{append-nil, arith, length-append, subst, sym, ◌∙◌}
use Rattle.std.specs.List.{flat_map}
use Rattle.std.proofs.lemmas.List.{drop_more, map-append}
use Rattle.std.specs.Prelude.{All, Contains, nat_lt}
use Rattle.std.proofs.lemmas.List.Elements.{All-append, All-cons, All-head, All-nil, All-tail, All-weaker}
use Rattle.std.proofs.lemmas.Bool.{le-leb, lt-leb, ltb-false, ltb-true, or_parts}
use Rattle.rim_manifest.specs.declared.fault.ManifestFault.{ManifestFault}
use Rattle.rim_manifest.specs.declared.fault_list.FaultList.{FaultList}
use Rattle.rim_manifest.specs.declared.finding.Finding.{Finding}
use Rattle.rim_manifest.specs.declared.finding.Findings.{Findings}
use Rattle.rim_manifest.specs.declared.finding.Findings.TheVariants as findings
use Rattle.rim_manifest.specs.Faults.{IsSubsequence, fault_if, is_lower, lower, lowest, noted, rank_of}
use Rattle.rim_manifest.specs.Found.{AreListed}
use Rattle.rim_manifest.specs.inside.Findings.{kept, list_kept}
use Rattle.rim_manifest.specs.inside.Kept.{AddsOnly, Kept, Lowest, Listed, faults_in, is_listed, with_fault, with_faults}
use Rattle.rim_manifest.specs.declared.fault_list.TheConstants.{FINDING_LIMIT}

pub with_append : (k : Kept) (fs gs : List ManifestFault) → with_faults k (fs ++ gs) ≡ with_faults (with_faults k fs) gs
with_append k [] gs = refl
with_append k (f ∷ fs) gs = with_append (with_fault k f) fs gs

-- some faults are added, and then some more
pub noted_two : (o p q : Kept) (fs gs : List ManifestFault) → p ≡ with_faults o fs → q ≡ with_faults p gs → q ≡ with_faults o (fs ++ gs)
noted_two o p q fs gs first second = second ∙ ap (λ k. with_faults k gs) first ∙ sym (with_append o fs gs)

-- a loop over xs that adds the faults of each: its step at the place i, from what its body ensures
pub noted_step : {X : Type 0} (f : X → List ManifestFault) (xs : List X) (i : ℕ) (d : X) (o p : Kept) → i < length xs
    → p ≡ with_faults o (f (get_or xs i d)) → with_faults p (flat_map f (drop (i + 1) xs)) ≡ with_faults o (flat_map f (drop i xs))
noted_step f xs i d o p h e =
    ap (λ q. with_faults q (flat_map f (drop (i + 1) xs))) e ∙ sym (with_append o (f (get_or xs i d)) (flat_map f (drop (i + 1) xs)))
    ∙ ap (λ ys. with_faults o (flat_map f ys)) (sym (drop_more xs i d h))

-- ---- what is kept in the end

lowest_kept : (o : Option ManifestFault) (fs : List ManifestFault) → with_faults (Lowest o) fs ≡ Lowest (noted o fs)
lowest_kept o [] = refl
lowest_kept o (f ∷ fs) = lowest_kept (lower o f) fs

pub lowest_is : (found : Findings) (fs : List ManifestFault) (least : Option ManifestFault) → found ≡ findings.Lowest least
    → kept found ≡ with_faults (Lowest None) fs → least ≡ lowest fs
lowest_is found fs least is ends = let e : Lowest least ≡ Lowest (lowest fs) = sym (ap kept is) ∙ ends ∙ lowest_kept None fs in cc

pub not_listed : (found : Findings) (fs : List ManifestFault) (list : FaultList) → found ≡ findings.Listed list
    → kept found ≡ with_faults (Lowest None) fs → ⊥
not_listed found fs list is ends = let e : list_kept list ≡ Lowest (lowest fs) = sym (ap kept is) ∙ ends ∙ lowest_kept None fs in cc

-- ---- a list of faults

noted_last : (o : Option ManifestFault) (fs : List ManifestFault) (f : ManifestFault) → noted o (fs ++ f ∷ []) ≡ lower (noted o fs) f
noted_last o [] f = refl
noted_last o (g ∷ fs) f = noted_last (lower o g) fs f

-- the lowest of a list that has one more
pub lowest_last : (found : List Finding) (f : Finding) → lowest (faults_in (found ++ f ∷ [])) ≡ lower (lowest (faults_in found)) f.fault
lowest_last found f = ap lowest (map-append (λ (x : Finding). x.fault) found (f ∷ [])) ∙ noted_last None (faults_in found) f.fault

-- one that comes before what was found is the lowest
pub is_lowest : (o : Option ManifestFault) (f : ManifestFault) → is_lower f o ≡ true → lower o f ≡ Some f
unfolding lower
is_lowest None f first = refl
is_lowest (Some g) f first =
    let order : rank_of f < rank_of g = ltb-true (rank_of f) (rank_of g) first in
    rw (lt-leb (rank_of g) (rank_of f) order) refl

-- one that does not come before what was found leaves the lowest as it is
pub not_lower : (o : Option ManifestFault) (f : ManifestFault) → is_lower f o ≡ false → lower o f ≡ o
unfolding lower
not_lower None f other = cc
not_lower (Some g) f other =
    let order : rank_of g ≤ rank_of f = ltb-false (rank_of f) (rank_of g) other in
    rw (le-leb (rank_of g) (rank_of f) order) refl

-- ---- some of the faults, in their order

pub subsequence_longer : (fs gs : List ManifestFault) (g : ManifestFault) → IsSubsequence fs gs → IsSubsequence fs (gs ++ g ∷ [])
subsequence_longer [] gs g is = tt
subsequence_longer (f ∷ fs) [] g is = absurd is
subsequence_longer (f ∷ fs) (h ∷ gs) g (inl same) = inl (same.0, subsequence_longer fs gs g same.1)
subsequence_longer (f ∷ fs) (h ∷ gs) g (inr later) = inr (subsequence_longer (f ∷ fs) gs g later)

one_last : (gs : List ManifestFault) (g : ManifestFault) → IsSubsequence (g ∷ []) (gs ++ g ∷ [])
one_last [] g = inl (refl, tt)
one_last (h ∷ gs) g = inr (one_last gs g)

-- the last fault is one more of both
pub subsequence_next : (fs gs : List ManifestFault) (g : ManifestFault) → IsSubsequence fs gs → IsSubsequence (fs ++ g ∷ []) (gs ++ g ∷ [])
subsequence_next [] gs g is = one_last gs g
subsequence_next (f ∷ fs) [] g is = absurd is
subsequence_next (f ∷ fs) (h ∷ gs) g (inl same) = inl (same.0, subsequence_next fs gs g same.1)
subsequence_next (f ∷ fs) (h ∷ gs) g (inr later) = inr (subsequence_next (f ∷ fs) gs g later)

-- the list after one more fault
one_listed : (fs listed : List ManifestFault) (more : ℕ) (f : ManifestFault) → AreListed fs listed more → AreListed (fs ++ f ∷ []) (listed ++ f ∷ []) more
one_listed fs listed more f are = record {
  some = subsequence_next listed fs f are.some;
  lowest = noted_last None listed f ∙ ap (λ o. lower o f) are.lowest ∙ sym (noted_last None fs f);
  count =
      let a : length listed + more ≡ length fs = are.count in
      let b : length (listed ++ f ∷ []) ≡ length listed + 1 = length-append listed (f ∷ []) in
      let c : length (fs ++ f ∷ []) ≡ length fs + 1 = length-append fs (f ∷ []) in
      omega arith;
  all = λ few.
      let count : length (fs ++ f ∷ []) ≡ length fs + 1 = length-append fs (f ∷ []) in
      let most : length (fs ++ f ∷ []) ≤ FINDING_LIMIT = few in
      ap (λ (gs : List ManifestFault). gs ++ f ∷ []) (are.all (omega arith));
}

-- the list has no room, and the fault is not lower than the lowest in it
one_more : (fs listed : List ManifestFault) (more : ℕ) (f : ManifestFault) → is_listed listed f ≡ false → AreListed fs listed more
    → AreListed (fs ++ f ∷ []) listed (more + 1)
one_more fs listed more f other are =
    let parts = or_parts (nat_lt (length listed) FINDING_LIMIT) (is_lower f (lowest listed)) other in
    let full : FINDING_LIMIT ≤ length listed = ltb-false (length listed) FINDING_LIMIT parts.0 in
    let a : length listed + more ≡ length fs = are.count in
    let c : length (fs ++ f ∷ []) ≡ length fs + 1 = length-append fs (f ∷ []) in
    record {
      some = subsequence_longer listed fs f are.some;
      lowest = sym (not_lower (lowest listed) f parts.1) ∙ ap (λ o. lower o f) are.lowest ∙ sym (noted_last None fs f);
      count = omega arith;
      all = λ few. let few : length (fs ++ f ∷ []) ≤ FINDING_LIMIT = few in absurd (omega arith);
    }

record Ends (k : Kept) (fs : List ManifestFault) : Type 0 where
  listed : List ManifestFault
  more : ℕ
  is : k ≡ Listed listed more
  are : AreListed fs listed more

-- by whether one more is listed
by_test : (fs listed : List ManifestFault) (more : ℕ) (g : ManifestFault) (gs : List ManifestFault) (b : Bool) → is_listed listed g ≡ b
    → AreListed fs listed more
    → ((to : List ManifestFault) (n : ℕ) → AreListed (fs ++ g ∷ []) to n → Ends (with_faults (Listed to n) gs) ((fs ++ g ∷ []) ++ gs))
    → Ends (with_faults (Listed listed more) (g ∷ gs)) (fs ++ g ∷ gs)
by_test fs listed more g gs true test are others =
    rw test (subst (Ends _) (append_assoc fs (g ∷ []) gs) (others (listed ++ g ∷ []) more (one_listed fs listed more g are)))
by_test fs listed more g gs false test are others =
    rw test (subst (Ends _) (append_assoc fs (g ∷ []) gs) (others listed (more + 1) (one_more fs listed more g test are)))

-- all of them, one after another
list_kept_of : (fs listed : List ManifestFault) (more : ℕ) (gs : List ManifestFault) → AreListed fs listed more
    → Ends (with_faults (Listed listed more) gs) (fs ++ gs)
list_kept_of fs listed more [] are =
    record { listed = listed; more = more; is = refl; are = subst (λ (x : List ManifestFault). AreListed x listed more) (sym (append-nil fs)) are }
list_kept_of fs listed more (g ∷ gs) are =
    by_test fs listed more g gs (is_listed listed g) refl are (λ to n next. list_kept_of (fs ++ g ∷ []) to n gs next)

none_listed : AreListed [] [] 0
none_listed = record { some = tt; lowest = refl; count = refl; all = λ few. refl }

pub list_is : (found : Findings) (fs : List ManifestFault) (list : FaultList) → found ≡ findings.Listed list
    → kept found ≡ with_faults (Listed [] 0) fs → AreListed fs (faults_in list.findings.items) list.more
list_is found fs list is ends =
    let all = list_kept_of [] [] 0 fs none_listed in
    let e : Listed (faults_in list.findings.items) list.more ≡ Listed all.listed all.more = sym (ap kept is) ∙ ends ∙ all.is in
    let same : faults_in list.findings.items ≡ all.listed = cc in
    let count : list.more ≡ all.more = cc in
    subst (λ (x : List ManifestFault). AreListed fs x list.more) (sym same) (subst (AreListed fs all.listed) (sym count) all.are)

pub not_lowest : (found : Findings) (fs : List ManifestFault) (least : Option ManifestFault) → found ≡ findings.Lowest least
    → kept found ≡ with_faults (Listed [] 0) fs → ⊥
not_lowest found fs least is ends =
    let all = list_kept_of [] [] 0 fs none_listed in
    let e : Lowest least ≡ Listed all.listed all.more = sym (ap kept is) ∙ ends ∙ all.is in cc

pub flat_map_map : {X Y Z : Type 0} (g : Y → List Z) (f : X → Y) (xs : List X) → flat_map g (map f xs) ≡ flat_map (λ x. g (f x)) xs
flat_map_map g f [] = refl
flat_map_map g f (x ∷ xs) = ap (λ ys. g (f x) ++ ys) (flat_map_map g f xs)

-- ---- only faults among some are added

pub adds_nothing : (allowed : List ManifestFault) (k : Kept) → AddsOnly allowed k k
adds_nothing allowed k = record { added = []; each = All-nil (Contains allowed); are = refl }

pub adds_two : (allowed : List ManifestFault) (o p q : Kept) → AddsOnly allowed o p → AddsOnly allowed p q → AddsOnly allowed o q
adds_two allowed o p q first second = record {
  added = first.added ++ second.added;
  each = All-append (Contains allowed) first.added second.added first.each second.each;
  are = noted_two o p q first.added second.added first.are second.are;
}

pub adds_if : (allowed : List ManifestFault) (holds : Bool) (f : ManifestFault) (o p : Kept) → (holds ≡ true → Contains allowed f)
    → p ≡ with_faults o (fault_if holds f) → AddsOnly allowed o p
adds_if allowed true f o p among are =
    record { added = f ∷ []; each = All-cons (Contains allowed) f [] (among refl) (All-nil (Contains allowed)); are = are }
adds_if allowed false f o p among are = record { added = []; each = All-nil (Contains allowed); are = are }

pub adds_among : (few many : List ManifestFault) (o p : Kept) → ((f : ManifestFault) → Contains few f → Contains many f) → AddsOnly few o p → AddsOnly many o p
adds_among few many o p more adds =
    record { added = adds.added; each = All-weaker (Contains few) (Contains many) more adds.added adds.each; are = adds.are }

all_of_some : (P : ManifestFault → Type 0) (fs gs : List ManifestFault) → IsSubsequence fs gs → All P gs → All P fs
all_of_some P [] gs is all = All-nil P
all_of_some P (f ∷ fs) [] is all = absurd is
all_of_some P (f ∷ fs) (g ∷ gs) (inl same) all =
    All-cons P f fs (subst P (sym same.0) (All-head P g gs all)) (all_of_some P fs gs same.1 (All-tail P g gs all))
all_of_some P (f ∷ fs) (g ∷ gs) (inr later) all = all_of_some P (f ∷ fs) gs later (All-tail P g gs all)

-- each fault of the list that is kept in the end is among them
pub all_among : (allowed : List ManifestFault) (found : Findings) (list : FaultList) → found ≡ findings.Listed list
    → AddsOnly allowed (Listed [] 0) (kept found) → All (Contains allowed) (faults_in list.findings.items)
all_among allowed found list is adds =
    all_of_some (Contains allowed) (faults_in list.findings.items) adds.added (list_is found adds.added list is adds.are).some adds.each
