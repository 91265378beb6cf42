-- What words are refused: those that ask for nothing whose files are apart.
use Rattle.std.proofs.Common.{◌≡◌, ◌⊎◌, ◌≤◌, ◌<◌, ◌^◌, arith, ℕ, ◌∷◌, inl, inr, refl, sym, subst, List, [], Option, Some, None, codes}
use Rattle.std.specs.Prelude.{Err, IfErr, IfNone, IfOk, IfSome, Ok, Result, ⊤}
use Rattle.std.specs.Option.{ok_or}
use Rattle.std.specs.Bool.{MatchBool}
use Rattle.std.specs.Str.{bytes_eq}
use Rattle.clap.specs.Words.{FailsBy, IsAmong, Row, Text, fault_of, kind_of, subcommand_of}
use Rattle.clap.specs.declared.error.Error.{Error}
use Rattle.clap.specs.declared.error.kind.ErrorKind.{ErrorKind}
use Rattle.clap.specs.declared.error.kind.ErrorKind.TheVariants.{OutOfMemory}
use Rattle.tp_cli_args.specs.Commands.{tempo_app}
use Rattle.tp_cli_args.specs.declared.arguments.NoRequest.{NoRequest}
use Rattle.tp_cli_args.specs.declared.arguments.NoRequest.TheVariants.{Memory}
use Rattle.tp_text.specs.Scales.{scale_ticks}
use Rattle.tp_text.specs.declared.number.Scale.{Scale}
use Rattle.tp_text.specs.declared.number.Scale.TheVariants.{One, Ten, Hundred, Thousand}
use Rattle.tp_cli_args.specs.Refusals.{NoAudit, NoBare, NoDraw, NoPlanOf, NoRun, NoSearch, NoSplit}
use Rattle.tp_cli_args.specs.Requests.{AsksBy, AsksForNothing, AsksNothing, AsksRightly, AsksSearch, CallsForText, HasOwnFiles, IsUntil, NamesBare, Spells, TellsText, inputs}
use Rattle.tp_cli_plan.specs.declared.search_words.Order.{Order}
use Rattle.tp_cli_plan.specs.declared.search_words.Order.TheVariants.{Lacking, Guided}
use Rattle.tp_cli_plan.specs.declared.search_words.SearchWords.{SearchWords}
use Rattle.tp_cli_args.specs.declared.requests.Request.{Request}
use Rattle.tp_cli_args.specs.declared.requests.Request.TheVariants.{Bare, BareLog, BareResume, Check, Net, Run, RunLog, RunResume, Plan, Audit, PlanAudit, Split, Part, Draw, Help}

pub if_none : {T : Type 0} (o : Option T) (P : Type 0) → P → IfNone o P
if_none None P p = p
if_none (Some x) P p = tt

pub some_none : (o : Option Text) (t : Text) → Some t ≡ o → o ≡ None → ⊥
some_none o t some none = cc

-- a tick that is given, and is no number
pub until_none : (first one : Option Text) (t : Text) → Some t ≡ first → ((n : ℕ) → n < 2 ^ 32 → Spells one n → ⊥) → (h : Option ℕ) → IsUntil first one h → ⊥
until_none first one t given refused None h = some_none first t given h
until_none first one t given refused (Some n) h = refused n (omega (arith, h.1)) h.0

pub small_scale : (s : Scale) → scale_ticks s < 2 ^ 32
small_scale One = omega arith
small_scale Ten = omega arith
small_scale Hundred = omega arith
small_scale Thousand = omega arith

-- the command of a name is asked for nothing whose files are apart
abbrev pub No : Text → List Row → Type 0
No name rows =
    MatchBool (bytes_eq name (codes "bare")) (NoBare rows)
    (MatchBool (bytes_eq name (codes "check")) (NoPlanOf rows)
    (MatchBool (bytes_eq name (codes "net")) (NoPlanOf rows)
    (MatchBool (bytes_eq name (codes "run")) (NoRun rows)
    (MatchBool (bytes_eq name (codes "plan")) (NoSearch 1000000 rows)
    (MatchBool (bytes_eq name (codes "solve")) (NoSearch 1000000000 rows)
    (MatchBool (bytes_eq name (codes "audit")) (NoAudit rows)
    (MatchBool (bytes_eq name (codes "split")) (NoSplit rows)
    (MatchBool (bytes_eq name (codes "draw")) (NoDraw rows) ⊤))))))))

abbrev NoOf : Option (Text × List Row) → Type 0
NoOf None = ⊥
NoOf (Some named) = No named.0 named.1

no_bare : (named : Option (Text × List Row)) → NoOf named → NamesBare named → ⊥
no_bare None vain h = vain
no_bare (Some named) vain h =
    let here : NoBare named.1 = subst (λ n. No n named.1) h.0 vain in
    here.0 h.1 h.2

no_search : (named : Option (Text × List Row)) (o : Order) (w : SearchWords) → NoOf named → AsksSearch named o w → inputs (w.domain.now ∷ w.problem.now ∷ []) ≤ 1 → ⊥
no_search named (Lacking progress) w vain h own =
    let here : NoSearch 1000000 h.0 = subst NoOf h.1 vain in
    here w h.2 own
no_search named (Guided wishes) w vain h own =
    let here : NoSearch 1000000000 h.0 = subst NoOf h.1 vain in
    here w h.2 own

asked_none : (named : Option (Text × List Row)) → NoOf named → AsksNothing named
asked_none named vain Bare h own = no_bare named vain h
asked_none named vain (BareLog log) h own =
    let here : NoBare h.0 = subst NoOf h.1 vain in
    here.1 log h.2 h.3 own.1
asked_none named vain (BareResume old log) h own =
    let here : NoBare h.0 = subst NoOf h.1 vain in
    here.2 old log h.2 h.3 own.0 own.1
asked_none named vain (Check w) h own =
    let here : NoPlanOf h.0 = subst NoOf h.1 vain in
    here w h.2 own.0
asked_none named vain (Net w) h own =
    let here : NoPlanOf h.0 = subst NoOf h.1 vain in
    here w h.2 own.0
asked_none named vain (Run w) h own =
    let here : NoRun h.0 = subst NoOf h.1 vain in
    here.0 w h.4 h.2 h.3 own.0
asked_none named vain (RunLog w log) h own =
    let here : NoRun h.0 = subst NoOf h.1 vain in
    here.1 w log h.4 h.2 h.3 own.0 own.1
asked_none named vain (RunResume w old log) h own =
    let here : NoRun h.0 = subst NoOf h.1 vain in
    here.2 w old log h.4 h.2 h.3 own.0 own.1
asked_none named vain (Plan w) h own = no_search named w.order w vain h own.0
asked_none named vain (Audit log) h own =
    let here : NoAudit h.0 = subst NoOf h.1 vain in
    here.0 log h.2 h.3 h.4
asked_none named vain (PlanAudit log w) h own =
    let here : NoAudit h.0 = subst NoOf h.1 vain in
    here.1 log w h.2 h.3 own.0
asked_none named vain (Split w owners) h own =
    let here : NoSplit h.0 = subst NoOf h.1 vain in
    here.0 w owners h.4 h.2 h.3 own.0
asked_none named vain (Part w owners agent) h own =
    let here : NoSplit h.0 = subst NoOf h.1 vain in
    here.1 w owners agent h.5 h.2 h.3 h.4 own.0
asked_none named vain (Draw w) h own =
    let here : NoDraw h.0 = subst NoOf h.1 vain in
    here w h.2 own.0
asked_none named vain (Help text) h own = h

-- where the name is that of a command, and that has nothing to do
pub none_asked : (r : Option Request) (name command : Text) (rows : List Row) → name ≡ command → IfNone r (No command rows) → IfNone r (AsksNothing (Some (name, rows)))
none_asked None name command rows is vain = asked_none (Some (name, rows)) (subst (λ n. No n rows) (sym is) vain)
none_asked (Some r) name command rows is vain = tt

-- what words ask for rightly is a text, or what their command asks for, with its own files
abbrev Right : List Text → Request → Type 0
Right words r = CallsForText (fault_of tempo_app words) ⊎ ((fault_of tempo_app words ≡ []) × (AsksBy (subcommand_of tempo_app words) r × HasOwnFiles r))

right : (words : List Text) (r : Request) → AsksRightly words r → Right words r
right words Bare h = inr (h.0.0, (h.0.1, h.1))
right words (BareLog log) h = inr (h.0.0, (h.0.1, h.1))
right words (BareResume old log) h = inr (h.0.0, (h.0.1, h.1))
right words (Check w) h = inr (h.0.0, (h.0.1, h.1))
right words (Net w) h = inr (h.0.0, (h.0.1, h.1))
right words (Run w) h = inr (h.0.0, (h.0.1, h.1))
right words (RunLog w log) h = inr (h.0.0, (h.0.1, h.1))
right words (RunResume w old log) h = inr (h.0.0, (h.0.1, h.1))
right words (Plan w) h = inr (h.0.0, (h.0.1, h.1))
right words (Audit log) h = inr (h.0.0, (h.0.1, h.1))
right words (PlanAudit log w) h = inr (h.0.0, (h.0.1, h.1))
right words (Split w owners) h = inr (h.0.0, (h.0.1, h.1))
right words (Part w owners agent) h = inr (h.0.0, (h.0.1, h.1))
right words (Draw w) h = inr (h.0.0, (h.0.1, h.1))
right words (Help text) h = inl h

-- a parse without a fault, whose command asks for nothing
free_right : (words : List Text) (named : Option (Text × List Row)) (r : Request) → fault_of tempo_app words ≡ [] → named ≡ subcommand_of tempo_app words → AsksNothing named → Right words r → ⊥
free_right words named r free is vain (inl (inl help)) = cc (free, help)
free_right words named r free is vain (inl (inr version)) = cc (free, version)
free_right words named r free is vain (inr h) = subst AsksNothing is vain r h.1.0 h.1.1

pub free_nothing : (words : List Text) (named : Option (Text × List Row)) → fault_of tempo_app words ≡ [] → named ≡ subcommand_of tempo_app words → AsksNothing named → AsksForNothing words
free_nothing words named free is vain = λ r h. free_right words named r free is vain (right words r h)

-- a parse with a fault that is no call for a text
fault_right : (words : List Text) (k : ErrorKind) (r : Request) → IsAmong k (fault_of tempo_app words) → (TellsText k → ⊥) → Right words r → ⊥
fault_right words k r among vain (inl (inl help)) = elim (subst (IsAmong k) help among) [
  | inl is ↦ vain (inl is)
  | inr none ↦ none
]
fault_right words k r among vain (inl (inr version)) = elim (subst (IsAmong k) version among) [
  | inl is ↦ vain (inr is)
  | inr none ↦ none
]
fault_right words k r among vain (inr h) = subst (IsAmong k) h.0 among

fault_nothing : (words : List Text) (k : ErrorKind) → IsAmong k (fault_of tempo_app words) → (TellsText k → ⊥) → AsksForNothing words
fault_nothing words k among vain = λ r h. fault_right words k r among vain (right words r h)

among_refused : (words : List Text) (k : ErrorKind) (r : Result Request NoRequest) → IsAmong k (fault_of tempo_app words) → IfErr r (λ e. (e ≡ Memory) ⊎ (TellsText k → ⊥)) → IfErr r (λ e. (e ≡ Memory) ⊎ AsksForNothing words)
among_refused words k (Ok x) among refused = tt
among_refused words k (Err e) among (inl memory) = inl memory
among_refused words k (Err e) among (inr vain) = inr (fault_nothing words k among vain)

-- what is refused where a parse gave an error
pub error_refused : (T : Type 0) (words : List Text) (error : Error) (r : Result Request NoRequest) → FailsBy {T = T} (fault_of tempo_app words) (Err error) → (kind_of error ≡ OutOfMemory → r ≡ Err Memory) → IfErr r (λ e. (e ≡ Memory) ⊎ (TellsText (kind_of error) → ⊥)) → IfErr r (λ e. (e ≡ Memory) ⊎ AsksForNothing words)
error_refused T words error r (inl lacks) memory refused =
    subst (λ q. IfErr q (λ e. (e ≡ Memory) ⊎ AsksForNothing words)) (sym (memory lacks)) (inl refl)
error_refused T words error r (inr among) memory refused = among_refused words (kind_of error) r among refused

-- what is there is an answer, and else the words are refused
pub some_ok : (o : Option Request) (e : NoRequest) (P : Request → Type 0) → IfSome o P → IfOk (ok_or o e) P
some_ok None e P h = tt
some_ok (Some r) e P h = h

pub none_err : (o : Option Request) (e : NoRequest) (P : Type 0) → IfNone o P → IfErr (ok_or o e) (λ q. (q ≡ Memory) ⊎ P)
none_err None e P h = inr h
none_err (Some r) e P h = tt

-- help names no file
pub help_own : (r : Request) → ((text : _) × (r ≡ Help text)) → HasOwnFiles r
help_own r h = subst HasOwnFiles (sym h.1) (omega arith, tt)

pub none_weaker : (o : Option Request) (P Q : Type 0) → (P → Q) → IfNone o P → IfNone o Q
none_weaker None P Q f h = f h
none_weaker (Some r) P Q f h = tt
