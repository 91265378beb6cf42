-- The format of a journal, whatever executive it is of: which line may stand behind which lines, and where the lines may end.
use Rattle.std.specs.Prelude.{ℕ, ◌+◌, Bool, true, false, not, ◌&&◌, ◌||◌, nat_eq, nat_le, nat_lt, if◌then◌else◌, List, [], ◌∷◌, drop, Option, Some, None, is_some, codes}
use Rattle.std.specs.Option.{option_and_then, option_map}
use Rattle.std.specs.List.{list_all}
use Rattle.std.specs.Str.{bytes_eq}
use Rattle.tp_exec_machine.specs.declared.command.Command.{Command}
use Rattle.tp_exec_machine.specs.declared.command.Command.TheVariants.{Advance, Add, Withdraw, Window, Dispatch, Happened, Report}
use Rattle.tp_script.specs.Words.{words_of, is_digit}
use Rattle.tp_script.specs.Commands.{event_of, moment_of, point_of, weight_of, pair_spelled, list_is_empty, command_of}
use Rattle.tp_script.specs.Serving.{head_of}
use Rattle.tp_script.specs.Written.{command_text}
use Rattle.tp_journal_pairs.specs.Edges.{begins, edge_of, front_of, last_of}
use Rattle.tp_journal.specs.declared.form.Asked.{Asked}
use Rattle.tp_journal.specs.declared.form.Asked.TheVariants.{Nothing, Told}
use Rattle.tp_journal.specs.declared.form.Place.{Place}
use Rattle.tp_journal.specs.declared.form.Place.TheVariants.{Start, Network, Kind, Own, Lag, Question, Reply}
use Rattle.tp_journal.specs.declared.form.LastByte.{LastByte}
use Rattle.tp_journal.specs.declared.form.LastByte.TheVariants.{Gap, Zero, Digit, Other}

-- ---- one spelling of words and numbers

-- what a digit is, behind what comes before it: none follows a zero with which a number begins
abbrev pub digit_after : LastByte → ℕ → Option LastByte
digit_after Gap b = if nat_eq b 48 then Some Zero else Some Digit
digit_after Zero b = None
digit_after Digit b = Some Digit
digit_after Other b = if nat_eq b 48 then Some Zero else Some Digit

-- what a space is: none begins a text, and none follows a space
abbrev pub space_after : LastByte → Option LastByte
space_after Gap = None
space_after Zero = Some Gap
space_after Digit = Some Gap
space_after Other = Some Gap

abbrev pub last_after : LastByte → ℕ → Option LastByte
last_after last b =
    if nat_eq b 32 then space_after last else (if nat_eq b 9 || nat_eq b 13 then None else
    (if is_digit b then digit_after last b else Some Other))

-- the last byte of a text, if each byte of it may follow the one before
abbrev pub last_byte_of : LastByte → List ℕ → Option LastByte
last_byte_of last [] = Some last
last_byte_of last (b ∷ bs) = option_and_then (λ next. last_byte_of next bs) (last_after last b)

abbrev pub ends_word : Option LastByte → Bool
ends_word None = false
ends_word (Some Gap) = false
ends_word (Some Zero) = true
ends_word (Some Digit) = true
ends_word (Some Other) = true

-- the text is words with one space between, and no number in it has a leading zero
abbrev pub is_neat : List ℕ → Bool
is_neat text = ends_word (last_byte_of Gap text)

-- ---- the lines of a head

-- line 1 names the version
abbrev pub version_of : List ℕ → Option ℕ
version_of line =
    if bytes_eq line (codes "journal 1") then Some 1
    else (if bytes_eq line (codes "journal 2") then Some 2 else None)

-- line 2: the events and the horizon
abbrev pub network_of : List ℕ → Option (ℕ × ℕ)
network_of line = if is_neat line then head_of line else None

abbrev pub own_count_from : List (List ℕ) → Option ℕ
own_count_from [] = None
own_count_from (name ∷ []) = None
own_count_from (name ∷ k ∷ []) = if bytes_eq name (codes "own") then event_of k else None
own_count_from (name ∷ k ∷ w ∷ ws) = None

-- line 3 of a network that came from a plan: how many bounds are its own
abbrev pub own_count_of : List ℕ → Option ℕ
own_count_of line = if is_neat line then own_count_from (words_of line) else None

-- the number is that one
abbrev pub is_number : ℕ → Option ℕ → Bool
is_number n None = false
is_number n (Some k) = nat_eq k n

-- two points and a weight
abbrev pub are_ends : List ℕ → List ℕ → List ℕ → Bool
are_ends f t w = is_some (point_of f) && (is_some (point_of t) && is_some (weight_of w))

abbrev pub is_own_from : ℕ → List (List ℕ) → Bool
is_own_from id [] = false
is_own_from id (name ∷ []) = false
is_own_from id (name ∷ i ∷ []) = false
is_own_from id (name ∷ i ∷ f ∷ []) = false
is_own_from id (name ∷ i ∷ f ∷ t ∷ []) = false
is_own_from id (name ∷ i ∷ f ∷ t ∷ w ∷ []) =
    bytes_eq name (codes "bound")
    && (is_number id (moment_of i) && (not (bytes_eq w (codes "-0")) && are_ends f t w))
is_own_from id (name ∷ i ∷ f ∷ t ∷ w ∷ v ∷ ws) = false

-- the line of an own bound under that identifier. The weight 0 has no minus
abbrev pub is_own_line : ℕ → List ℕ → Bool
is_own_line id line = is_neat line && is_own_from id (words_of line)

abbrev pub lag_from : List (List ℕ) → Option (ℕ × ℕ)
lag_from [] = None
lag_from (name ∷ ws) = if bytes_eq name (codes "lag") then pair_spelled ws else None

-- the line of a lag: the event and its lag
abbrev pub lag_of : List ℕ → Option (ℕ × ℕ)
lag_of line = if is_neat line then lag_from (words_of line) else None

-- ---- the lines of pairs

-- the version has the command: version 1 has no reports of events
abbrev pub has_command : ℕ → Command → Bool
has_command version (Advance to) = true
has_command version (Add b) = true
has_command version (Withdraw id) = true
has_command version (Window e) = true
has_command version (Dispatch e) = true
has_command version (Happened e moment) = nat_eq version 2
has_command version Report = true

-- a moment in a report, with its mark or without
abbrev pub is_moment_word : List ℕ → Bool
is_moment_word w =
    if bytes_eq (last_of w) (codes "!") then is_some (moment_of (front_of w))
    else is_some (moment_of w)

abbrev pub is_edge_word : List ℕ → Bool
is_edge_word w = is_some (edge_of w)

-- the word of a refusal without a reason, or of a line that was no command
abbrev pub is_refusal_word : List ℕ → Bool
is_refusal_word w =
    bytes_eq w (codes "event") || (bytes_eq w (codes "done") || (bytes_eq w (codes "bound")
    || (bytes_eq w (codes "weight") || (bytes_eq w (codes "back") || (bytes_eq w (codes "moment")
    || (bytes_eq w (codes "full") || (bytes_eq w (codes "spent")
    || (bytes_eq w (codes "memory") || bytes_eq w (codes "line")))))))))

abbrev pub is_kind_word : List ℕ → Bool
is_kind_word w = bytes_eq w (codes "bare")
    || (bytes_eq w (codes "kept") || bytes_eq w (codes "altered"))

-- one moment or identifier, and no more
abbrev pub is_moment_alone : List (List ℕ) → Bool
is_moment_alone [] = false
is_moment_alone (w ∷ ws) = is_some (moment_of w) && list_is_empty ws

abbrev pub is_refusal_from : List (List ℕ) → Bool
is_refusal_from [] = false
is_refusal_from (w ∷ ws) =
    if bytes_eq w (codes "conflict") then not (list_is_empty ws) && list_all is_edge_word ws
    else (is_refusal_word w && list_is_empty ws)

-- the kind, and then moments
abbrev pub is_kind_and : List (List ℕ) → Bool
is_kind_and [] = false
is_kind_and (kind ∷ ws) = is_kind_word kind && list_all is_moment_word ws

abbrev pub is_report_from : List (List ℕ) → Bool
is_report_from [] = false
is_report_from (now ∷ ws) = is_some (moment_of now) && is_kind_and ws

abbrev pub is_window_from : List (List ℕ) → Bool
is_window_from [] = false
is_window_from (low ∷ ws) = is_some (moment_of low) && is_moment_alone ws

abbrev pub is_answer_from : List (List ℕ) → Bool
is_answer_from [] = false
is_answer_from (name ∷ ws) =
    if bytes_eq name (codes "ok") then list_is_empty ws else
    (if bytes_eq name (codes "bound") then is_moment_alone ws else
    (if bytes_eq name (codes "window") then is_window_from ws else
    (if bytes_eq name (codes "report") then is_report_from ws else
    (if bytes_eq name (codes "refused") then is_refusal_from ws else false))))

-- the line of an answer, whatever the machine may answer
abbrev pub is_reply : List ℕ → Bool
is_reply line = begins (codes "< ") line
    && (is_neat (drop 2 line) && is_answer_from (words_of (drop 2 line)))

-- ---- places

-- what the lines so far call for, once the bounds of a network came
abbrev pub own_place : ℕ → ℕ → ℕ → ℕ → Place
own_place version events id count =
    if nat_lt id count then Own version events id count else Lag version events 0

-- a lag that may come: its event is at or above the least, there is the event, and the lag is in range and not 0
abbrev pub may_lag : ℕ → ℕ → ℕ × ℕ → Bool
may_lag events least p =
    nat_le least p.0 && (nat_lt p.0 events && (nat_lt 0 p.1 && nat_le p.1 1_000_000_000))

abbrev pub lag_place : ℕ → ℕ → ℕ → ℕ × ℕ → Option Place
lag_place version events least p =
    if nat_eq version 2 && may_lag events least p then Some (Lag version events (p.0 + 1)) else None

-- a command of that version in its one spelling
abbrev pub one_command : ℕ → List ℕ → Option Asked
one_command version text =
    option_and_then (λ command. if bytes_eq text (command_text command) && has_command version
    command then Some (Told command) else None) (command_of text)

-- the line of a question
abbrev pub question_of : ℕ → List ℕ → Option Asked
question_of version line =
    if bytes_eq line (codes "> ?") then Some Nothing else
    (if begins (codes "> ") line then one_command version (drop 2 line) else None)

-- where the network's own bounds are told
abbrev pub kind_place : ℕ → ℕ → List ℕ → Option Place
kind_place version events line =
    if bytes_eq line (codes "bare") then Some (Lag version events 0) else
    option_map (own_place version events 0) (own_count_of line)

-- what the lines call for behind a line of a head that may stand there
abbrev pub head_place : Place → List ℕ → Option Place
head_place Start line = option_map Network (version_of line)
head_place (Network version) line = option_map (λ p. Kind version p.0) (network_of line)
head_place (Kind version events) line = kind_place version events line
head_place (Own version events id count) line =
    if nat_lt id count && is_own_line id line then Some
    (own_place version events (id + 1) count) else None
head_place (Lag version events least) line =
    option_and_then (lag_place version events least) (lag_of line)
head_place (Question version) line = None
head_place (Reply version) line = None

-- what the lines call for behind a line that may stand there
abbrev pub pair_place : Place → List ℕ → Option Place
pair_place Start line = None
pair_place (Network version) line = None
pair_place (Kind version events) line = None
pair_place (Own version events id count) line = None
pair_place (Lag version events least) line =
    option_map (λ asked. Reply version) (question_of version line)
pair_place (Question version) line = option_map (λ asked. Reply version) (question_of version line)
pair_place (Reply version) line = if is_reply line then Some (Question version) else None

-- the line begins as one of a pair does
abbrev pub is_of_pair : List ℕ → Bool
is_of_pair line = begins (codes ">") line || begins (codes "<") line

-- what the lines call for behind a line that may stand there. No line of a head begins as one of a pair does
abbrev pub next_place : Place → List ℕ → Option Place
next_place place line = if is_of_pair line then pair_place place line else head_place place line

-- what lines call for, if they are lines of the format that begin at that place
abbrev pub place_after : Place → List (List ℕ) → Option Place
place_after place [] = Some place
place_after place (line ∷ lines) =
    option_and_then (λ next. place_after next lines) (next_place place line)

-- a journal may end there
abbrev pub may_end : Place → Bool
may_end Start = false
may_end (Network version) = false
may_end (Kind version events) = false
may_end (Own version events id count) = false
may_end (Lag version events least) = true
may_end (Question version) = true
may_end (Reply version) = false
