-- The kind of an error that refuses words says whether they are a mistake or ask for help.
use Rattle.std.proofs.Common.{◌≡◌, Bool, true, false, not, List, [], ◌∷◌, refl, ap, ◌∙◌, subst, inl, inr}
use Rattle.std.specs.List.{list_all}
use Rattle.clap.specs.Words.{IsAmong, Kinds, Text, fault_of, kind_of}
use Rattle.clap.proofs.WalkLemmas.{both}
use Rattle.clap.specs.declared.error.kind.ErrorKind.{ErrorKind}
use Rattle.clap.specs.declared.error.Error.{Error}
use Rattle.rim_words.specs.declared.words.CommandFault.{CommandFault}
use Rattle.rim_words.specs.declared.words.CommandFault.TheVariants.{Usage}
use Rattle.rim_words.specs.Command.{AsksForHelp, IsMistaken, IsRefusalOf, is_asked, rim}

-- a kind that is one of some passes a test that all of them pass
passes_among : (test : ErrorKind → Bool) (kinds : Kinds) (k : ErrorKind) → list_all test kinds ≡ true → IsAmong k kinds → test k ≡ true
passes_among test [] k all among = absurd among
passes_among test (x ∷ xs) k all (inl here) = ap test here ∙ (both (test x) (list_all test xs) all).0
passes_among test (x ∷ xs) k all (inr later) = passes_among test xs k (both (test x) (list_all test xs) all).1 later

-- what is no mistake was asked for
not_asked : (b : Bool) → not b ≡ true → b ≡ false
not_asked true e = cc
not_asked false e = refl

-- the kind of an error that refuses words which are a mistake, or which ask for help
pub mistaken_kind : (words : List Text) (fault : CommandFault) (error : Error) → fault ≡ Usage error → IsMistaken words
    → IsRefusalOf (fault_of rim words) fault → is_asked (kind_of error) ≡ false
mistaken_kind words fault error e mistaken refused =
    not_asked (is_asked (kind_of error)) (passes_among (λ k. not (is_asked k)) (fault_of rim words) (kind_of error) mistaken.1 (subst (IsRefusalOf (fault_of rim words)) e refused))

pub asked_kind : (words : List Text) (fault : CommandFault) (error : Error) → fault ≡ Usage error → AsksForHelp words
    → IsRefusalOf (fault_of rim words) fault → is_asked (kind_of error) ≡ true
asked_kind words fault error e asks refused =
    passes_among is_asked (fault_of rim words) (kind_of error) asks.1 (subst (IsRefusalOf (fault_of rim words)) e refused)
