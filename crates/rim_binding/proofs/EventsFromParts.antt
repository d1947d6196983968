-- Events that lead to the same measurement are the same, or two messages of theirs collide.
use Rattle.std.proofs.Common.{◌≡◌, ℕ, ◌⊎◌, inl, inr, List, [], ◌∷◌, map, refl, ap}
use Rattle.std.specs.List.{AllByRecursion}
use Rattle.std.specs.Prelude.{Bool, None, Option, Some, false, if◌then◌else◌, true}
use Rattle.rim_desc.specs.Measurement.{measurement_of}
use Rattle.rim_desc.specs.Part.{Realm, Rec, rim_of}
use Rattle.rim_desc.specs.Realm.{realm_page_of}
use Rattle.rim_desc.specs.Rec.{RecData, rec_page_of}
use Rattle.rim_desc.specs.declared.measurement.Algo.{Algo}
use Rattle.rim_desc.specs.declared.realm.RealmParams.{RealmParams}
use Rattle.rmi_line.specs.Typed.{IsWord}
use Rattle.rim_binding.specs.Chain.{Fits, IsPage}
use Rattle.rim_binding.specs.Collision.{CollisionBetween}
use Rattle.rim_binding.specs.Event.{BecameRam, Created, Event, FitsParams, FitsRec, IsContent, IsContentOf, IsHashed, MeasuredParams}
use Rattle.rim_binding.specs.Event.{MeasuredRec, PageAdded, RecCreated, measured_params, measured_rec, params_page, part_of, start_page}
use Rattle.rim_binding.proofs.ChainsFromTheirEnds.{Among, same-or-collide, same_realm}
use Rattle.rim_binding.proofs.MessagesAreBytes.{measurement-fits}
use Rattle.rim_binding.proofs.PagesOfParameters.{params-page, same_params, same_rec, start-page}

-- ---- widths

-- the bytes of a page, if it is measured
abbrev pub FitsBytes : Option (List ℕ) → Type 0
FitsBytes (Some bytes) = IsPage bytes
FitsBytes None = Unit {0}

-- an event after the realm's creation: addresses and registers have 64 bits, and a page has 4096 bytes
abbrev pub FitsEvent : Event → Type 0
FitsEvent (Created m) = ⊥
FitsEvent (BecameRam base top) = IsWord base × IsWord top
FitsEvent (PageAdded ipa bytes) = IsWord ipa × FitsBytes bytes
FitsEvent (RecCreated m) = FitsRec m

-- ---- an event's part

part-fits : (algo : Algo) (event : Event) → FitsEvent event → Fits (part_of algo event)
part-fits algo (Created m) fits = absurd fits
part-fits algo (BecameRam base top) fits = fits
part-fits algo (PageAdded ipa None) fits = fits
part-fits algo (PageAdded ipa (Some bytes)) fits = (fits.0, measurement-fits algo bytes)
part-fits algo (RecCreated m) fits = measurement-fits algo (start_page m)

parts-fit : (algo : Algo) (events : List Event) → AllByRecursion FitsEvent events → AllByRecursion Fits (map (part_of algo) events)
parts-fit algo [] fits = tt
parts-fit algo (event ∷ events) fits = (part-fits algo event fits.0, parts-fit algo events fits.1)

-- the part of a realm's creation
pub created-realm : (p : RealmParams) → Realm (realm_page_of p) ≡ part_of p.algo (Created (measured_params p))
unfolding realm_page_of
created-realm p = refl

-- the part of a REC, if it extends the measurement
pub created-rec : (b : Bool) (algo : Algo) (r : RecData)
    → (if b then Rec (measurement_of algo (rec_page_of r)) ∷ [] else []) ≡ map (part_of algo) (if b then RecCreated (measured_rec r) ∷ [] else [])
unfolding rec_page_of
created-rec true algo r = refl
created-rec false algo r = refl

-- ---- an event from its part

same_event : (algo : Algo) (P Q : List ℕ → Type 0) (x y : Event) → FitsEvent x → FitsEvent y → Among (IsContent x) P → Among (IsContent y) Q
    → part_of algo x ≡ part_of algo y → (x ≡ y) ⊎ CollisionBetween algo P Q
same_event algo P Q (Created m) y x_fits y_fits in_p in_q same = absurd x_fits
same_event algo P Q x (Created n) x_fits y_fits in_p in_q same = absurd y_fits
same_event algo P Q (BecameRam base top) (BecameRam low high) x_fits y_fits in_p in_q same =
    let first : base ≡ low = cc in
    let last : top ≡ high = cc in
    inl (λ i. BecameRam (first i) (last i))
same_event algo P Q (PageAdded ipa None) (PageAdded jpa None) x_fits y_fits in_p in_q same =
    let ipas : ipa ≡ jpa = cc in inl (ap (λ (a : ℕ). PageAdded a None) ipas)
same_event algo P Q (PageAdded ipa (Some bytes)) (PageAdded jpa (Some others)) x_fits y_fits in_p in_q same =
    let ipas : ipa ≡ jpa = cc in
    let contents : measurement_of algo bytes ≡ measurement_of algo others = cc in
    elim (same-or-collide algo P Q bytes others (in_p bytes refl) (in_q others refl) x_fits.1.1 y_fits.1.1 contents) [
      | inl e ↦ inl (λ i. PageAdded (ipas i) (Some (e i)))
      | inr found ↦ inr found
    ]
same_event algo P Q (PageAdded ipa None) (PageAdded jpa (Some others)) x_fits y_fits in_p in_q same = absurd (cc)
same_event algo P Q (PageAdded ipa (Some bytes)) (PageAdded jpa None) x_fits y_fits in_p in_q same = absurd (cc)
same_event algo P Q (RecCreated m) (RecCreated n) x_fits y_fits in_p in_q same =
    let contents : measurement_of algo (start_page m) ≡ measurement_of algo (start_page n) = cc in
    elim (same-or-collide algo P Q (start_page m) (start_page n) (in_p (start_page m) refl) (in_q (start_page n) refl)
    (start-page m).1 (start-page n).1 contents) [
      | inl e ↦ inl (ap (λ (r : MeasuredRec). RecCreated r) (same_rec m n x_fits y_fits e))
      | inr found ↦ inr found
    ]
same_event algo P Q (BecameRam base top) (PageAdded jpa bytes) x_fits y_fits in_p in_q same = absurd (cc)
same_event algo P Q (BecameRam base top) (RecCreated n) x_fits y_fits in_p in_q same = absurd (cc)
same_event algo P Q (PageAdded ipa bytes) (BecameRam low high) x_fits y_fits in_p in_q same = absurd (cc)
same_event algo P Q (PageAdded ipa bytes) (RecCreated n) x_fits y_fits in_p in_q same = absurd (cc)
same_event algo P Q (RecCreated m) (BecameRam low high) x_fits y_fits in_p in_q same = absurd (cc)
same_event algo P Q (RecCreated m) (PageAdded jpa bytes) x_fits y_fits in_p in_q same = absurd (cc)

same_events : (algo : Algo) (P Q : List ℕ → Type 0) (xs ys : List Event) → AllByRecursion FitsEvent xs → AllByRecursion FitsEvent ys
    → Among (IsContentOf xs) P → Among (IsContentOf ys) Q → map (part_of algo) xs ≡ map (part_of algo) ys → (xs ≡ ys) ⊎ CollisionBetween algo P Q
same_events algo P Q [] [] xs_fit ys_fit in_p in_q same = inl refl
same_events algo P Q [] (y ∷ ys) xs_fit ys_fit in_p in_q same = absurd (cc)
same_events algo P Q (x ∷ xs) [] xs_fit ys_fit in_p in_q same = absurd (cc)
same_events algo P Q (x ∷ xs) (y ∷ ys) xs_fit ys_fit in_p in_q same =
    let heads : part_of algo x ≡ part_of algo y = cc in
    let tails : map (part_of algo) xs ≡ map (part_of algo) ys = cc in
    elim (same_event algo P Q x y xs_fit.0 ys_fit.0 (λ m m_in. in_p m (inl m_in)) (λ m m_in. in_q m (inl m_in)) heads) [
      | inr found ↦ inr found
      | inl first ↦ elim (same_events algo P Q xs ys xs_fit.1 ys_fit.1 (λ m m_in. in_p m (inr m_in)) (λ m m_in. in_q m (inr m_in)) tails) [
        | inr found ↦ inr found
        | inl others ↦ inl (λ i. first i ∷ others i)
      ]
    ]

-- ---- the events of a realm

-- they begin with its creation, which is the only one, and have the widths of their places
pub record IsHistory (events : List Event) : Type 0 where
  pub params : MeasuredParams
  pub others : List Event
  pub created : events ≡ Created params ∷ others
  pub params_fit : FitsParams params
  pub others_fit : AllByRecursion FitsEvent others

at-creation : (algo : Algo) (m n : MeasuredParams) (xs ys : List Event) → FitsParams m → FitsParams n
    → AllByRecursion FitsEvent xs → AllByRecursion FitsEvent ys
    → rim_of algo (map (part_of algo) (Created m ∷ xs)) ≡ rim_of algo (map (part_of algo) (Created n ∷ ys))
    → (Created m ∷ xs ≡ Created n ∷ ys) ⊎ CollisionBetween algo (IsHashed algo (Created m ∷ xs)) (IsHashed algo (Created n ∷ ys))
at-creation algo m n xs ys m_fits n_fits xs_fit ys_fit same =
    elim (same_realm algo (IsHashed algo (Created m ∷ xs)) (IsHashed algo (Created n ∷ ys)) (params_page m) (params_page n) (map (part_of algo) xs)
    (map (part_of algo) ys) (params-page m m_fits) (params-page n n_fits) (parts-fit algo xs xs_fit) (parts-fit algo ys ys_fit)
    (λ c c_in. inr c_in) (λ c c_in. inr c_in) same) [
      | inr found ↦ inr found
      | inl all ↦
          let params : m ≡ n = same_params m n m_fits n_fits all.pages in
          elim (same_events algo (IsHashed algo (Created m ∷ xs)) (IsHashed algo (Created n ∷ ys)) xs ys xs_fit ys_fit
          (λ c c_in. inl (inr c_in)) (λ c c_in. inl (inr c_in)) all.parts) [
            | inr found ↦ inr found
            | inl others ↦ inl (λ i. Created (params i) ∷ others i)
          ]
    ]

pub same_history : (algo : Algo) (xs ys : List Event) → IsHistory xs → IsHistory ys
    → rim_of algo (map (part_of algo) xs) ≡ rim_of algo (map (part_of algo) ys)
    → (xs ≡ ys) ⊎ CollisionBetween algo (IsHashed algo xs) (IsHashed algo ys)
same_history algo xs ys x y =
    rw (x.created, y.created) (at-creation algo x.params y.params x.others y.others x.params_fit y.params_fit x.others_fit y.others_fit)
