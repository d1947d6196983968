-- What a manifest gives, said apart from the defaults that its reader falls back on: what is read at a key is the
-- value at it, and a default is read only where the key is absent. This project's choice.
use Rattle.std.specs.Prelude.{◌≡◌, ℕ, ◌+◌, Bool, true, false, not, pos, List, [], ◌∷◌, ◌++◌, length, Option, Some, None, IsSome, Ok, codes, slice_get}
use Rattle.std.specs.List.{AllByRecursion, list_any}
use Rattle.std.specs.Str.Parse.{digits_value}
use Rattle.hex.specs.Hex.{decode_sized}
use Rattle.toml.specs.Data.{Data, string, integer, boolean, at, get}
use Rattle.rim_desc.specs.Numbers.{rmm_1_0}
use Rattle.rim_desc.specs.Page.{zeros}
use Rattle.rim_launch.specs.Kinds.{file_of, role_of}
use Rattle.rim_launch.specs.LaunchData.{LaunchData}
use Rattle.rim_launch.specs.Steps.{default_steps}
use Rattle.rim_launch.specs.declared.step.Step.{Step}
use Rattle.rim_launch.specs.declared.step.Step.TheVariants as step
use Rattle.rim_rules.specs.Forms.{items_of}
use Rattle.rim_rules.specs.Names.{name_of}
use Rattle.rim_manifest.specs.StepTexts.{is_decimal}
use Rattle.rim_launch.specs.declared.item.Edits.{Edits}
use Rattle.rim_launch.specs.declared.item.Item.{Item}
use Rattle.rim_launch.specs.declared.item.ItemKind.{ItemKind}
use Rattle.rim_launch.specs.declared.item.ItemKind.TheVariants as kind
use Rattle.rim_launch.specs.declared.item.Region.{Region}
use Rattle.rim_launch.specs.declared.rec.Rec.{Rec}
use Rattle.rim_manifest.specs.Launches.{NamedData}
use Rattle.rim_rules.specs.declared.version.FormatVersion.{FormatVersion}
use Rattle.rim_rules.specs.declared.version.FormatVersion.TheVariants.{One, Two}
use Rattle.rim_rules.specs.Kinds.{kind_word, step_front}
use Rattle.rim_rules.specs.declared.kind.StepKind.TheVariants as about
use Rattle.rim_rules.specs.Values.{array_at}
use Rattle.rim_desc.specs.Measurement.{algo_word}
use Rattle.rim_desc.specs.Rule.{rule_word}
use Rattle.rim_desc.specs.declared.rule.RecRule.{RecRule}
use Rattle.rim_launch.specs.declared.config.TheConstants.{POOL_LIMIT}

-- a number, or the default of its key
abbrev pub GivesNumber : ℕ → Option Data → ℕ → Type 0
GivesNumber default None n = n ≡ default
GivesNumber default (Some d) n = d ≡ integer (pos n)

abbrev pub GivesTruth : Bool → Option Data → Bool → Type 0
GivesTruth default None b = b ≡ default
GivesTruth default (Some d) b = d ≡ boolean b

-- 64 bytes by their hexadecimal digits
abbrev pub GivesBytes : Option Data → List ℕ → Type 0
GivesBytes None bytes = bytes ≡ zeros 64
GivesBytes (Some (string s)) bytes = decode_sized s 64 ≡ Ok bytes
GivesBytes (Some _) bytes = ⊥

-- ---- lists

-- as many values as things, and each gives the thing at its place
abbrev pub EachGives : {X : Type 0} → (Data → X → Type 0) → List Data → List X → Type 0
EachGives R [] [] = Unit {0}
EachGives R (d ∷ ds) (x ∷ xs) = R d x × EachGives R ds xs
EachGives R _ _ = ⊥

-- a pair of addresses gives a region
abbrev pub GivesRegion : Data → Region → Type 0
GivesRegion d r = (at 0 d ≡ Some (integer (pos r.base))) × (at 1 d ≡ Some (integer (pos r.end)))

-- ---- words

-- a number, or a text `0x` and the number's hexadecimal digits
abbrev pub SpellsWord : Data → ℕ → Type 0
SpellsWord (integer z) n = z ≡ pos n
SpellsWord (string s) n = (digits : List ℕ) × (s ≡ codes "0x" ++ digits) × (digits_value 16 digits ≡ n)
SpellsWord _ n = ⊥

abbrev pub GivesWord : Option Data → Option ℕ → Type 0
GivesWord None None = Unit {0}
GivesWord (Some d) (Some n) = SpellsWord d n
GivesWord _ _ = ⊥

-- the word at a place of an array, or zero past its end
abbrev pub FillsWord : Option Data → ℕ → Type 0
FillsWord None n = n ≡ 0
FillsWord (Some d) n = SpellsWord d n

-- the words of an array from a place on
abbrev pub FillsWords : ℕ → Data → List ℕ → Type 0
FillsWords i d [] = Unit {0}
FillsWords i d (n ∷ ns) = FillsWord (at i d) n × FillsWords (i + 1) d ns

abbrev pub GivesWords : Option Data → Option (List ℕ) → Type 0
GivesWords None None = Unit {0}
GivesWords (Some d) (Some ns) = (length ns ≡ 8) × FillsWords 0 d ns
GivesWords _ _ = ⊥

pub record GivesRec (d : Data) (r : Rec) : Type 0 where
  pub pc : GivesWord (get (codes "pc") d) r.pc
  pub x : GivesWords (get (codes "x") d) r.x
  pub runnable : GivesTruth true (get (codes "runnable") d) r.runnable

-- ---- files and items

abbrev pub GivesName : Data → List ℕ → Type 0
GivesName d name = get (codes "name") d ≡ Some (string name)

abbrev pub GivesPath : Data → List ℕ → Type 0
GivesPath d path = get (codes "path") d ≡ Some (string path)

-- the file of this number has the name that a key gives; where there is none, the key is not given
abbrev pub GivesFile : List Data → Option Data → Option ℕ → Type 0
GivesFile files None None = Unit {0}
GivesFile files (Some (string name)) (Some n) = (file : Data) × (slice_get files n ≡ Some file) × (get (codes "name") file ≡ Some (string name))
GivesFile files _ _ = ⊥

abbrev pub GivesSize : Option Data → Option ℕ → Type 0
GivesSize None None = Unit {0}
GivesSize (Some d) (Some n) = d ≡ integer (pos n)
GivesSize _ _ = ⊥

abbrev pub GivesBootargs : Option Data → Option (List ℕ) → Type 0
GivesBootargs None None = Unit {0}
GivesBootargs (Some d) (Some text) = d ≡ string text
GivesBootargs _ _ = ⊥

pub record GivesEdits (d : Data) (e : Edits) : Type 0 where
  pub bootargs : GivesBootargs (get (codes "bootargs") d) e.bootargs
  pub initrd : GivesTruth false (get (codes "initrd") d) e.initrd
  pub memory : GivesTruth false (get (codes "memory") d) e.memory

-- a devicetree has the edits that are given, and unknown content is given its size
abbrev pub GivesKind : Data → ItemKind → Type 0
GivesKind d (kind.Dtb file edits) = GivesEdits d edits
GivesKind d kind.Unknown = IsSome (get (codes "size") d)
GivesKind d _ = Unit {0}

-- unknown content is not measured, and its table says nothing of that
abbrev pub GivesMeasured : ItemKind → Option Data → Bool → Type 0
GivesMeasured kind.Unknown o b = (o ≡ None) × (b ≡ false)
GivesMeasured _ o b = GivesTruth true o b

pub record GivesItem (files : List Data) (d : Data) (i : Item) : Type 0 where
  pub role : get (codes "kind") d ≡ Some (string (kind_word (role_of i.kind)))
  pub file : GivesFile files (get (codes "file") d) (file_of i.kind)
  pub kind : GivesKind d i.kind
  pub at : get (codes "at") d ≡ Some (integer (pos i.at))
  pub size : GivesSize (get (codes "size") d) i.size
  pub measured : GivesMeasured i.kind (get (codes "measured") d) i.measured

-- ---- steps

-- a word, a space and the decimal digits of a number, without a leading zero
abbrev pub SpellsNumber : List ℕ → List ℕ → ℕ → Type 0
SpellsNumber word text n = (digits : List ℕ) × (text ≡ word ++ digits) × (is_decimal digits ≡ true) × (digits_value 10 digits ≡ n)

-- the text names the region, the item or the REC of the step, where the tables of the items are these
abbrev pub SpellsStep : List Data → List ℕ → Step → Type 0
SpellsStep items text (step.Ram n) = SpellsNumber (step_front about.Ram) text n
SpellsStep items text (step.Item n) = (item : Data) × (slice_get items n ≡ Some item) × (text ≡ step_front about.Item ++ name_of item)
SpellsStep items text (step.Rec n) = SpellsNumber (step_front about.Rec) text n

abbrev pub GivesStep : List Data → Data → Step → Type 0
GivesStep items (string text) s = SpellsStep items text s
GivesStep items _ s = ⊥

-- the steps that are given, or the default ones
abbrev pub GivesSteps : List Data → Option Data → LaunchData → Type 0
GivesSteps items None l = l.steps ≡ default_steps (length l.ram) l.items (length l.recs)
GivesSteps items (Some d) l = EachGives (GivesStep items) (items_of d) l.steps

-- ---- launches

-- the rule that version 2 gives; version 1 has none, and its table says nothing of one
abbrev pub GivesRule : FormatVersion → Option Data → Option RecRule → Type 0
GivesRule One o rule = (o ≡ None) × (rule ≡ None)
GivesRule Two None None = Unit {0}
GivesRule Two (Some d) (Some rule) = d ≡ string (rule_word rule)
GivesRule Two _ _ = ⊥

-- in version 2 a launch with a REC that is not runnable has a rule
abbrev pub HasItsRule : FormatVersion → LaunchData → Type 0
HasItsRule One l = Unit {0}
HasItsRule Two l = list_any (λ r. not r.runnable) l.recs ≡ true → IsSome l.config.rec_rule

-- the launch has what its table gives, in a manifest of this version
pub record IsGiven (v : FormatVersion) (files : List Data) (d : Data) (l : NamedData) : Type 0 where
  pub name : GivesName d l.name
  pub algo : get (codes "algo") d ≡ Some (string (algo_word l.launch.config.algo))
  pub s2sz : get (codes "s2sz") d ≡ Some (integer (pos l.launch.config.s2sz))
  pub sve : GivesTruth false (get (codes "sve") d) l.launch.config.sve
  pub pmu : GivesTruth false (get (codes "pmu") d) l.launch.config.pmu
  pub numbers : AllByRecursion (λ row. GivesNumber 0 (get row.name d) (row.value l.launch.config.numbers)) rmm_1_0
  pub rpv : GivesBytes (get (codes "rpv") d) l.launch.config.rpv
  pub block_level : GivesNumber 2 (get (codes "block_level") d) l.launch.config.block_level
  pub num_aux : GivesNumber 0 (get (codes "num_aux") d) l.launch.config.num_aux
  pub rec_rule : GivesRule v (get (codes "rec_rule") d) l.launch.config.rec_rule
  pub pool_base : GivesNumber 0x800000000 (get (codes "pool_base") d) l.launch.config.pool_base
  pub pool_count : GivesNumber POOL_LIMIT (get (codes "pool_count") d) l.launch.config.pool_count
  pub ram : EachGives GivesRegion (array_at (codes "ram") d) l.launch.ram
  pub items : EachGives (GivesItem files) (array_at (codes "item") d) l.launch.items
  pub recs : EachGives GivesRec (array_at (codes "rec") d) l.launch.recs
  pub ruled : HasItsRule v l.launch
  pub steps : GivesSteps (array_at (codes "item") d) (get (codes "steps") d) l.launch
  pub item_names : EachGives GivesName (array_at (codes "item") d) l.item_names
