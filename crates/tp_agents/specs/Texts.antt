-- Agent numbers as a text spells them: whole numbers of one to four digits between blanks.
use Rattle.std.specs.Prelude.{◌≡◌, ℕ, Bool, false, ◌==◌, ◌&&◌, ◌||◌, nat_le, List, length, map, take, slice_get, if◌then◌else◌, Option, Some, None, true}
use Rattle.std.specs.List.{All, filter, slice_split, list_all}
use Rattle.std.specs.Char.{is_ascii_digit}
use Rattle.std.specs.Str.Parse.{digits_value}
use Rattle.tp_agents.specs.declared.fault.SplitFault.{SplitFault}
use Rattle.tp_agents.specs.declared.fault.SplitFault.TheVariants.{Memory, Owner, Conflict}

-- space, or one of tab, line feed, vertical tab, form feed and carriage return
abbrev pub is_blank : ℕ → Bool
is_blank b = b == 32 || (nat_le 9 b && nat_le b 13)

-- what stands between the blanks
abbrev pub words_of : List ℕ → List (List ℕ)
words_of bytes = filter (λ w. nat_le 1 (length w)) (slice_split is_blank bytes)

-- one to four digits
abbrev pub is_number : List ℕ → Bool
is_number w = nat_le 1 (length w) && nat_le (length w) 4 && list_all is_ascii_digit w

abbrev pub number_of : List ℕ → Option ℕ
number_of w = if is_number w then Some (digits_value 10 w) else None

-- the words are numbers, and these are their values
pub record AreNumbers (words : List (List ℕ)) (numbers : List ℕ) : Type 0 where
  pub all : All (λ w. is_number w ≡ true) words
  pub values : numbers ≡ map (digits_value 10) words

-- the k-th word, counted from 0, is the first that is no number
pub record IsFirstOther (words : List (List ℕ)) (k : ℕ) : Type 0 where
  pub before : All (λ w. is_number w ≡ true) (take k words)
  pub word : List ℕ
  pub there : slice_get words k ≡ Some word
  pub other : is_number word ≡ false

-- it names the k-th word, where it names one
abbrev pub TellsWord : ℕ → SplitFault → Type 0
TellsWord k Memory = Unit {0}
TellsWord k (Owner n) = n ≡ k
TellsWord k (Conflict reason) = ⊥

-- what keeps a text from being read
abbrev pub IsUnread : List (List ℕ) → SplitFault → Type 0
IsUnread words Memory = Unit {0}
IsUnread words (Owner k) = IsFirstOther words k
IsUnread words (Conflict reason) = ⊥
