-- What a key of a manifest may hold. This project's choice.
use Rattle.std.specs.Prelude.{ℕ, ◌%◌, ◌^◌, ℤ, pos, negsuc, Bool, true, false, ◌&&◌, ◌||◌, ◌==◌, nat_le, nat_lt, int_le, List, [], ◌∷◌, length, Option, Some, None, is_some}
use Rattle.std.specs.List.{list_all}
use Rattle.std.specs.Option.{option_map_or}
use Rattle.std.specs.Str.{bytes_eq}
use Rattle.hex.specs.Hex.{is_hex_digit}
use Rattle.toml.specs.Data.{Data, string, integer, array, Items, no_items, item, Members, no_members, member, as_str, as_integer, as_bool, as_table, as_array, at}
use Rattle.rim_rules.specs.declared.form.Form.{Form}
use Rattle.rim_rules.specs.declared.form.Form.TheVariants as form
use Rattle.rim_rules.specs.declared.form.Presence.{Presence}
use Rattle.rim_rules.specs.declared.form.Presence.TheVariants.{Required, Optional}
use Rattle.rim_launch.specs.Texts.{has_no_zero}
use Rattle.rim_rules.specs.Words.{is_word}
use Rattle.rim_rules.specs.Kinds.{kind_of_word}
use Rattle.rim_desc.specs.Measurement.{algo_word}
use Rattle.rim_desc.specs.declared.measurement.Algo.TheVariants.{Sha256, Sha512}
use Rattle.rim_desc.specs.Rule.{rule_word}
use Rattle.rim_desc.specs.declared.rule.RecRule.TheVariants.{All, Runnable}
use Rattle.rim_rules.specs.declared.form.TheConstants.{NAME_LIMIT}

-- the values of an array
abbrev pub items_list : Items → List Data
items_list no_items = []
items_list (item d ds) = d ∷ items_list ds

-- the values of an array, and none of another value
abbrev pub items_of : Data → List Data
items_of (array ds) = items_list ds
items_of _ = []

abbrev pub items_in : Option Data → List Data
items_in (Some d) = items_of d
items_in None = []

-- the keys of a table
abbrev pub keys_list : Members → List (List ℕ)
keys_list no_members = []
keys_list (member k d ms) = k ∷ keys_list ms

-- an ASCII letter or digit, `.`, `_` or `-`
abbrev pub is_name_byte : ℕ → Bool
is_name_byte b = (nat_le 65 b && nat_le b 90) || (nat_le 97 b && nat_le b 122) || (nat_le 48 b && nat_le b 57) || (b == 46) || (b == 95) || (b == 45)

-- 1 to 64 such characters
abbrev pub is_name : List ℕ → Bool
is_name text = nat_le 1 (length text) && nat_le (length text) NAME_LIMIT && list_all is_name_byte text

abbrev pub is_table : Data → Bool
is_table d = is_some (as_table d)

abbrev pub is_integer : Data → Bool
is_integer d = is_some (as_integer d)

abbrev pub is_text : Data → Bool
is_text d = is_some (as_str d)

-- a number or a text
abbrev pub is_word_kind : Data → Bool
is_word_kind d = is_integer d || is_some (as_str d)

-- an array of two numbers
abbrev pub is_pair : Data → Bool
is_pair d = option_map_or (λ ds. (length (items_list ds) == 2) && list_all is_integer (items_list ds)) (as_array d) false

-- addresses of a region: its base is below its end
abbrev pub is_region : ℕ → ℕ → Bool
is_region base end = nat_lt base end && nat_lt end (2 ^ 63)

abbrev pub is_range : Option Data → Option Data → Bool
is_range (Some (integer (pos base))) (Some (integer (pos end))) = is_region base end
is_range _ _ = false

-- a pair that is a base and an end
abbrev pub is_range_pair : Data → Bool
is_range_pair d = is_range (at 0 d) (at 1 d)

-- a multiple of 64 KiB below 2^48
abbrev pub is_pool_base : ℕ → Bool
is_pool_base n = (n % 65536 == 0) && nat_lt n (2 ^ 48)

abbrev pub is_base : ℤ → Bool
is_base (pos n) = is_pool_base n
is_base (negsuc n) = false

-- a text is the word of an algorithm
abbrev pub is_algorithm : List ℕ → Bool
is_algorithm s = bytes_eq s (algo_word Sha256) || bytes_eq s (algo_word Sha512)

-- a text is the word of a rule for RECs
abbrev pub is_rec_rule : List ℕ → Bool
is_rec_rule s = bytes_eq s (rule_word All) || bytes_eq s (rule_word Runnable)

abbrev pub is_required : Presence → Bool
is_required Required = true
is_required Optional = false

-- whether a value is of a form's kind
abbrev pub has_kind : Form → Data → Bool
has_kind form.Version d = is_some (as_integer d)
has_kind form.Name d = is_some (as_str d)
has_kind form.Algorithm d = is_some (as_str d)
has_kind (form.Number low high) d = is_some (as_integer d)
has_kind form.Truth d = is_some (as_bool d)
has_kind (form.Digits count) d = is_some (as_str d)
has_kind (form.Tables most) d = option_map_or (λ ds. list_all is_table (items_list ds)) (as_array d) false
has_kind form.PoolBase d = is_integer d
has_kind (form.Regions most) d = option_map_or (λ ds. list_all is_pair (items_list ds)) (as_array d) false
has_kind form.Word d = is_word_kind d
has_kind (form.Words most) d = option_map_or (λ ds. list_all is_word_kind (items_list ds)) (as_array d) false
has_kind form.Text d = is_some (as_str d)
has_kind form.AnyText d = is_some (as_str d)
has_kind form.ItemKind d = is_some (as_str d)
has_kind form.Bootargs d = is_some (as_str d)
has_kind form.RecRule d = is_some (as_str d)
has_kind form.Texts d = option_map_or (λ ds. list_all is_text (items_list ds)) (as_array d) false

-- whether a value has more parts than its form allows
abbrev pub is_over : Form → Data → Bool
is_over (form.Tables most) (array ds) = nat_lt most (length (items_list ds))
is_over (form.Regions most) (array ds) = nat_lt most (length (items_list ds))
is_over (form.Words most) (array ds) = nat_lt most (length (items_list ds))
is_over _ _ = false

-- whether a value that is of a form's kind is in the form's range
abbrev pub is_within : Form → Data → Bool
is_within form.Name (string s) = is_name s
is_within form.Algorithm (string s) = is_algorithm s
is_within (form.Digits count) (string s) = (length s == count) && list_all is_hex_digit s
is_within (form.Number low high) (integer z) = int_le low z && int_le z high
is_within form.PoolBase (integer z) = is_base z
is_within (form.Regions most) (array ds) = list_all is_range_pair (items_list ds)
is_within form.Word d = is_word d
is_within (form.Words most) (array ds) = list_all is_word (items_list ds)
is_within form.Text (string s) = nat_le 1 (length s)
is_within form.ItemKind (string s) = is_some (kind_of_word s)
is_within form.Bootargs (string s) = has_no_zero s
is_within form.RecRule (string s) = is_rec_rule s
is_within _ _ = true
