-- What a parse asks for.
use Rattle.std.proofs.Common.{◌≡◌, ◌∙◌, ◌⊎◌, ◌<◌, ◌^◌, ap, ap₂, arith, ℕ, ◌∷◌, inl, inr, refl, sym, subst, List, [], Option, Some, None, true, false, codes}
use Rattle.std.specs.Prelude.{Result, Ok, Err, Bool, if◌then◌else◌, ◌||◌, nat_eq, unwrap_or, IfNone}
use Rattle.clap.specs.Words.{FailsBy, IsAmong, ReadsOne, Row, Text, fault_of, first_of, one_of, one_text, is_simple, is_simple_and_free, kind_of, rows_of, subcommand_of}
use Rattle.clap.specs.declared.error.Error.{Error}
use Rattle.clap.specs.declared.error.kind.ErrorKind.{ErrorKind}
use Rattle.clap.specs.declared.error.kind.ErrorKind.TheVariants.{DisplayHelp, DisplayVersion, OutOfMemory}
use Rattle.clap.specs.declared.parser.matches.ArgMatches.{ArgMatches}
use Rattle.clap.proofs.OnLiterals.{clap_on_literals}
use Rattle.clap.proofs.WalkLemmas.{one_text-rows}
use Rattle.clap.proofs.ValueTestLemmas.{accepts-Accepts}
use Rattle.clap.specs.ValueTests.{accepts}
use Rattle.clap.specs.declared.builder.value_parser.ValueParser.TheVariants as vp
use Rattle.std.specs.Str.Parse.{IsNumeral, ParsesBool, digits_value, without_leading_plus}
use Rattle.clap.specs.declared.parser.matches.Found.{Found}
use Rattle.tp_cli_args.specs.Commands.{tempo_app}
use Rattle.tp_cli_args.specs.Requests.{AskForOneThing, AsksBy, AsksFor, AsksSearch, CallsForText, IsFlag, IsSearchWords, IsUntil, NamesBare, Spells, TellsText, command_name, domain_name, journal_name, order_command, owners_name, resume_name}
use Rattle.tp_text.specs.Scales.{scale_ticks}
use Rattle.tp_text.specs.declared.number.Scale.TheVariants.{One}
use Rattle.std.specs.Option.{option_map}
use Rattle.tp_cli_inputs.specs.declared.draw_words.DrawWords.{DrawWords}
use Rattle.tp_cli_inputs.specs.declared.plan_words.PlanWords.{PlanWords}
use Rattle.tp_cli_plan.specs.declared.search_words.Order.{Order}
use Rattle.tp_cli_plan.specs.declared.search_words.Order.TheVariants.{Lacking, Guided}
use Rattle.tp_cli_plan.specs.declared.search_words.SearchWords.{SearchWords}
use Rattle.tp_solve.specs.declared.solving.Wishes.{Wishes}
use Rattle.tp_cli_args.specs.declared.requests.Request.{Request}
use Rattle.tp_cli_args.specs.declared.requests.Request.TheVariants.{Bare, BareLog, BareResume, Check, Net, Run, RunLog, RunResume, Plan, Audit, PlanAudit, Split, Part, Draw, Help}

abbrev first_letter : Text → ℕ
first_letter [] = 0
first_letter (x ∷ xs) = x

pub simple : is_simple tempo_app ≡ true
unfolding clap_on_literals
simple = refl

pub simple_and_free : is_simple_and_free tempo_app ≡ true
unfolding clap_on_literals
simple_and_free = refl

-- the values of `plan` and of `solve`, for a search of its order
pub asks_plan : (rows : List Row) (w : SearchWords) (progress : Bool) → IsSearchWords 1000000 rows w → w.order ≡ Lacking progress → IsFlag (one_of (codes "progress") rows) progress → AsksSearch (Some (codes "plan", rows)) w.order w
asks_plan rows w progress h is told = subst (λ o. AsksSearch (Some (codes "plan", rows)) o w) (sym is) (rows, refl, h, told)

pub asks_solve : (rows : List Row) (w : SearchWords) (wishes : Wishes) → IsSearchWords 1000000000 rows w → w.order ≡ Guided wishes → IsFlag (one_of (codes "improve") rows) wishes.improve → IsFlag (one_of (codes "progress") rows) wishes.progress → AsksSearch (Some (codes "solve", rows)) w.order w
asks_solve rows w wishes h is improve progress =
    subst (λ o. AsksSearch (Some (codes "solve", rows)) o w) (sym is) (rows, refl, h, improve, progress)

-- what matches ask for, the words ask for
pub asks_by : (words : List Text) (named : Option (Text × List Row)) (r : Request) → fault_of tempo_app words ≡ [] → named ≡ subcommand_of tempo_app words → AsksBy named r → AsksFor words r
asks_by words named Bare free is h = (free, subst (λ n. NamesBare n) is h)
asks_by words named (BareLog log) free is h = (free, subst (λ n. AsksBy n (BareLog log)) is h)
asks_by words named (BareResume old log) free is h = (free, subst (λ n. AsksBy n (BareResume old log)) is h)
asks_by words named (Check w) free is h = (free, subst (λ n. AsksBy n (Check w)) is h)
asks_by words named (Net w) free is h = (free, subst (λ n. AsksBy n (Net w)) is h)
asks_by words named (Run w) free is h = (free, subst (λ n. AsksBy n (Run w)) is h)
asks_by words named (RunLog w log) free is h = (free, subst (λ n. AsksBy n (RunLog w log)) is h)
asks_by words named (RunResume w old log) free is h = (free, subst (λ n. AsksBy n (RunResume w old log)) is h)
asks_by words named (Plan w) free is h = (free, subst (λ n. AsksSearch n w.order w) is h)
asks_by words named (Audit log) free is h = (free, subst (λ n. AsksBy n (Audit log)) is h)
asks_by words named (PlanAudit log w) free is h = (free, subst (λ n. AsksBy n (PlanAudit log w)) is h)
asks_by words named (Split w owners) free is h = (free, subst (λ n. AsksBy n (Split w owners)) is h)
asks_by words named (Part w owners agent) free is h = (free, subst (λ n. AsksBy n (Part w owners agent)) is h)
asks_by words named (Draw w) free is h = (free, subst (λ n. AsksBy n (Draw w)) is h)
asks_by words named (Help text) free is h = absurd h

-- an error that is a call for help or for the version
asks_text : (words : List Text) (k : ErrorKind) → TellsText k → IsAmong k (fault_of tempo_app words) → IsAmong DisplayHelp (fault_of tempo_app words) ⊎ IsAmong DisplayVersion (fault_of tempo_app words)
asks_text words k (inl is) among = inl (subst (λ q. IsAmong q (fault_of tempo_app words)) is among)
asks_text words k (inr is) among = inr (subst (λ q. IsAmong q (fault_of tempo_app words)) is among)

out_of_memory : (k : ErrorKind) → k ≡ OutOfMemory → TellsText k → ⊥
out_of_memory k memory (inl is) = cc
out_of_memory k memory (inr is) = cc

pub asks_help : (words : List Text) (e : Error) (r : Request) → FailsBy {T = ArgMatches} (fault_of tempo_app words) (Err e) → ((text : _) × (r ≡ Help text)) × TellsText (kind_of e) → AsksFor words r
asks_help words e r fails is =
    subst (λ q. AsksFor words q) (sym is.0.1) (elim fails [
      | inl memory ↦ absurd (out_of_memory (kind_of e) memory is.1)
      | inr among ↦ asks_text words (kind_of e) is.1 among
    ])

-- without a fault only memory is wanting
pub only_memory : (words : List Text) (e : Error) → fault_of tempo_app words ≡ [] → FailsBy {T = ArgMatches} (fault_of tempo_app words) (Err e) → kind_of e ≡ OutOfMemory
only_memory words e free fails = elim fails [
  | inl memory ↦ memory
  | inr among ↦
      let no : ⊥ = subst (λ ks. IsAmong (kind_of e) ks) free among in
      absurd no
]

pub no_words : AsksFor [] Bare
unfolding clap_on_literals
no_words = (refl, tt)

pub bare_word : AsksFor (codes "bare" ∷ []) Bare
unfolding clap_on_literals
bare_word = (refl, (refl, refl, refl))

-- the file for a journal
pub bare_log_words : (w : PlanWords) → w.plan.now ≡ codes "l" → AsksFor (codes "bare" ∷ codes "--journal" ∷ codes "l" ∷ []) (BareLog w.plan)
unfolding clap_on_literals
bare_log_words w log = (refl, (_, refl, ap Some (sym log), refl))

-- and for one to go on from
pub bare_resume_words : (w : PlanWords) → w.plan.now ≡ codes "l" → w.domain.now ≡ codes "o" → AsksFor (codes "bare" ∷ codes "--journal" ∷ codes "l" ∷ codes "--resume" ∷ codes "o" ∷ []) (BareResume w.domain w.plan)
unfolding clap_on_literals
bare_resume_words w log old = (refl, (_, refl, ap Some (sym log), ap Some (sym old)))

-- a text that is a numeral spells its number
pub spelled : (t : Text) (n : ℕ) → accepts false (vp.Unsigned 0 4294967295) t ≡ true → digits_value 10 (without_leading_plus t) ≡ n → Spells (Some t) n
spelled t n ok value =
    record { numeral = t; given = refl; digits = (accepts-Accepts false (vp.Unsigned 0 4294967295) t ok).0; value = value }

-- a text spells one number
pub spells_one : (text : Option Text) (m n : ℕ) → Spells text m → Spells text n → m ≡ n
spells_one text m n one other =
    let same : one.numeral ≡ other.numeral = cc (one.given, other.given) in
    sym one.value ∙ (ap (λ t. digits_value 10 (without_leading_plus t)) same ∙ other.value)

-- words that call for help or for the version alone
pub help_words : CallsForText (fault_of tempo_app (codes "--help" ∷ []))
unfolding clap_on_literals
help_words = inl refl

pub version_words : CallsForText (fault_of tempo_app (codes "--version" ∷ []))
unfolding clap_on_literals
version_words = inr refl

pub command_help_words : CallsForText (fault_of tempo_app (codes "check" ∷ codes "--help" ∷ []))
unfolding clap_on_literals
command_help_words = inl refl

-- a number that was read is spelled by its text
pub number_spelled : {E : Type 0} (gives : List ℕ → Result ℕ E → Type 0) (f : Found) (id : Text) (n : ℕ) (o : Option (List ℕ)) → one_text f id ≡ o → (one_text f id ≡ None → Some n ≡ None) → ((t : List ℕ) → one_text f id ≡ Some t → ReadsOne gives t (Some n)) → ((t : List ℕ) → gives t (Ok n) → IsNumeral 10 (without_leading_plus t) × (n ≡ digits_value 10 (without_leading_plus t))) → Spells (one_of id (rows_of f)) n
number_spelled gives f id n None e none value told =
    let no : Some n ≡ None = none e in
    cc
number_spelled gives f id n (Some t) e none value told =
    let read = told t (value t e) in
    record { numeral = t; given = sym (one_text-rows f id) ∙ e; digits = read.0; value = sym read.1 }

-- and where none was read, its text spells none of the type
pub none_spelled : {E : Type 0} (gives : List ℕ → Result ℕ E → Type 0) (f : Found) (id : Text) (r : Option ℕ) → ((t : List ℕ) → one_text f id ≡ Some t → ReadsOne gives t r) → ((t : List ℕ) (e : E) → gives t (Err e) → IsNumeral 10 (without_leading_plus t) × (digits_value 10 (without_leading_plus t) < 2 ^ 32) → ⊥) → IfNone r ((n : ℕ) → n < 2 ^ 32 → Spells (one_of id (rows_of f)) n → ⊥)
none_spelled gives f id (Some n) value told = tt
none_spelled gives f id None value told =
    λ n small s.
    let read = value s.numeral (one_text-rows f id ∙ s.given) in
    told s.numeral read.0 read.1 (s.digits, subst (λ v. v < 2 ^ 32) (sym s.value) small)

-- a flag is given where `true` was read
flag_text : (E : Type 0) (f : Found) (id : Text) (r : Option Bool) (o : Option Text) → one_text f id ≡ o → (one_text f id ≡ None → r ≡ None) → ((t : Text) → one_text f id ≡ Some t → ReadsOne {E = E} ParsesBool t r) → unwrap_or r false ≡ true → one_text f id ≡ Some (codes "true")
flag_text E f id (Some true) (Some t) e none value given = e ∙ ap Some (value t e)
flag_text E f id (Some true) None e none value given =
    let no = none e in
    cc
flag_text E f id (Some false) o e none value given = cc
flag_text E f id None o e none value given = cc

text_flag : (E : Type 0) (f : Found) (id : Text) (r : Option Bool) → ((t : Text) → one_text f id ≡ Some t → ReadsOne {E = E} ParsesBool t r) → one_text f id ≡ Some (codes "true") → unwrap_or r false ≡ true
text_flag E f id (Some true) value is = refl
text_flag E f id (Some false) value is =
    let e : codes "true" ≡ codes "false" = value _ is in
    let no : 116 ≡ 102 = ap first_letter e in
    absurd (omega (arith, no))
text_flag E f id None value is = absurd ((value _ is).1.0 refl)

pub is_flag : (E : Type 0) (f : Found) (id : Text) (r : Option Bool) → (one_text f id ≡ None → r ≡ None) → ((t : Text) → one_text f id ≡ Some t → ReadsOne {E = E} ParsesBool t r) → IsFlag (one_of id (rows_of f)) (unwrap_or r false)
is_flag E f id r none value = (
  (λ given. sym (one_text-rows f id) ∙ flag_text E f id r _ refl none value given),
  (λ is. text_flag E f id r value (one_text-rows f id ∙ is)),
)

-- the three files, the scale that is given, and the horizon where none is given
pub check_words : (w : PlanWords) → w.domain.now ≡ codes "d" → w.problem.now ≡ codes "p" → w.plan.now ≡ codes "l" → scale_ticks w.scale ≡ 1000 → w.horizon ≡ 1000000 → AsksFor (codes "check" ∷ codes "d" ∷ codes "p" ∷ codes "--scale" ∷ codes "1000" ∷ codes "l" ∷ []) (Check w)
unfolding clap_on_literals
check_words w domain problem plan scale horizon = (
  refl,
  (
    _,
    refl,
    record {
      domain = ap Some (sym domain);
      problem = ap Some (sym problem);
      plan = ap Some (sym plan);
      scale = spelled (codes "1000") _ refl (sym scale);
      horizon = spelled (codes "1000000") _ refl (sym horizon);
      within = omega (arith, horizon);
    },
  ),
)

-- the same of the other command
pub net_words : (w : PlanWords) → w.domain.now ≡ codes "d" → w.problem.now ≡ codes "p" → w.plan.now ≡ codes "l" → scale_ticks w.scale ≡ 1000 → w.horizon ≡ 1000000 → AsksFor (codes "net" ∷ codes "d" ∷ codes "p" ∷ codes "--scale" ∷ codes "1000" ∷ codes "l" ∷ []) (Net w)
unfolding clap_on_literals
net_words w domain problem plan scale horizon = (
  refl,
  (
    _,
    refl,
    record {
      domain = ap Some (sym domain);
      problem = ap Some (sym problem);
      plan = ap Some (sym plan);
      scale = spelled (codes "1000") _ refl (sym scale);
      horizon = spelled (codes "1000000") _ refl (sym horizon);
      within = omega (arith, horizon);
    },
  ),
)

pub run_words : (w : PlanWords) → w.domain.now ≡ codes "d" → w.problem.now ≡ codes "p" → w.plan.now ≡ codes "l" → scale_ticks w.scale ≡ 1000 → w.horizon ≡ 1000000 → AsksFor (codes "run" ∷ codes "d" ∷ codes "p" ∷ codes "--scale" ∷ codes "1000" ∷ codes "l" ∷ []) (Run w)
unfolding clap_on_literals
run_words w domain problem plan scale horizon = (
  refl,
  (
    _,
    refl,
    refl,
    refl,
    record {
      domain = ap Some (sym domain);
      problem = ap Some (sym problem);
      plan = ap Some (sym plan);
      scale = spelled (codes "1000") _ refl (sym scale);
      horizon = spelled (codes "1000000") _ refl (sym horizon);
      within = omega (arith, horizon);
    },
  ),
)

-- and with a file for a journal
pub run_log_words : (w : PlanWords) (v : SearchWords) → w.domain.now ≡ codes "d" → w.problem.now ≡ codes "p" → w.plan.now ≡ codes "l" → scale_ticks w.scale ≡ 1 → w.horizon ≡ 1000000 → v.domain.now ≡ codes "j" → AsksFor (codes "run" ∷ codes "d" ∷ codes "p" ∷ codes "l" ∷ codes "--journal" ∷ codes "j" ∷ []) (RunLog w v.domain)
unfolding clap_on_literals
run_log_words w v domain problem plan scale horizon log = (
  refl,
  (
    _,
    refl,
    ap Some (sym log),
    refl,
    record {
      domain = ap Some (sym domain);
      problem = ap Some (sym problem);
      plan = ap Some (sym plan);
      scale = spelled (codes "1") _ refl (sym scale);
      horizon = spelled (codes "1000000") _ refl (sym horizon);
      within = omega (arith, horizon);
    },
  ),
)

-- and with one to go on from
pub run_resume_words : (w : PlanWords) (v : SearchWords) → w.domain.now ≡ codes "d" → w.problem.now ≡ codes "p" → w.plan.now ≡ codes "l" → scale_ticks w.scale ≡ 1 → w.horizon ≡ 1000000 → v.domain.now ≡ codes "j" → v.problem.now ≡ codes "o" → AsksFor (codes "run" ∷ codes "d" ∷ codes "p" ∷ codes "l" ∷ codes "--journal" ∷ codes "j" ∷ codes "--resume" ∷ codes "o" ∷ []) (RunResume w v.problem v.domain)
unfolding clap_on_literals
run_resume_words w v domain problem plan scale horizon log old = (
  refl,
  (
    _,
    refl,
    ap Some (sym log),
    ap Some (sym old),
    record {
      domain = ap Some (sym domain);
      problem = ap Some (sym problem);
      plan = ap Some (sym plan);
      scale = spelled (codes "1") _ refl (sym scale);
      horizon = spelled (codes "1000000") _ refl (sym horizon);
      within = omega (arith, horizon);
    },
  ),
)

-- the files of a plan behind that of a journal
pub plan_audit_words : (w : PlanWords) (v : SearchWords) → w.domain.now ≡ codes "d" → w.problem.now ≡ codes "p" → w.plan.now ≡ codes "l" → scale_ticks w.scale ≡ 1000 → w.horizon ≡ 1000000 → v.domain.now ≡ codes "j" → AsksFor (codes "audit" ∷ codes "j" ∷ codes "d" ∷ codes "p" ∷ codes "l" ∷ codes "--scale" ∷ codes "1000" ∷ []) (PlanAudit v.domain w)
unfolding clap_on_literals
plan_audit_words w v domain problem plan scale horizon log = (
  refl,
  (
    _,
    refl,
    ap Some (sym log),
    record {
      domain = ap Some (sym domain);
      problem = ap Some (sym problem);
      plan = ap Some (sym plan);
      scale = spelled (codes "1000") _ refl (sym scale);
      horizon = spelled (codes "1000000") _ refl (sym horizon);
      within = omega (arith, horizon);
    },
  ),
)

-- the file of the agents behind those of a plan
pub split_words : (w : PlanWords) (v : SearchWords) → w.domain.now ≡ codes "d" → w.problem.now ≡ codes "p" → w.plan.now ≡ codes "l" → scale_ticks w.scale ≡ 1000 → w.horizon ≡ 1000000 → v.domain.now ≡ codes "o" → AsksFor (codes "split" ∷ codes "d" ∷ codes "p" ∷ codes "--scale" ∷ codes "1000" ∷ codes "l" ∷ codes "o" ∷ []) (Split w v.domain)
unfolding clap_on_literals
split_words w v domain problem plan scale horizon owners = (
  refl,
  (
    _,
    refl,
    ap Some (sym owners),
    refl,
    record {
      domain = ap Some (sym domain);
      problem = ap Some (sym problem);
      plan = ap Some (sym plan);
      scale = spelled (codes "1000") _ refl (sym scale);
      horizon = spelled (codes "1000000") _ refl (sym horizon);
      within = omega (arith, horizon);
    },
  ),
)

-- and one of them
pub part_words : (w : PlanWords) (v : SearchWords) → w.domain.now ≡ codes "d" → w.problem.now ≡ codes "p" → w.plan.now ≡ codes "l" → scale_ticks w.scale ≡ 1 → w.horizon ≡ 1000000 → v.domain.now ≡ codes "o" → AsksFor (codes "split" ∷ codes "d" ∷ codes "p" ∷ codes "l" ∷ codes "o" ∷ codes "--part" ∷ codes "2" ∷ []) (Part w v.domain 2)
unfolding clap_on_literals
part_words w v domain problem plan scale horizon owners = (
  refl,
  (
    _,
    refl,
    ap Some (sym owners),
    spelled (codes "2") _ refl refl,
    omega arith,
    record {
      domain = ap Some (sym domain);
      problem = ap Some (sym problem);
      plan = ap Some (sym plan);
      scale = spelled (codes "1") _ refl (sym scale);
      horizon = spelled (codes "1000000") _ refl (sym horizon);
      within = omega (arith, horizon);
    },
  ),
)

abbrev text_letter : Option Text → ℕ
text_letter None = 0
text_letter (Some t) = first_letter t

-- the two files, the budget that is given, and the scale and the horizon where none are given
pub plan_words : (w : SearchWords) → w.domain.now ≡ codes "d" → w.problem.now ≡ codes "p" → scale_ticks w.scale ≡ 1 → w.horizon ≡ 1000000 → w.budget ≡ 7 → w.order ≡ Lacking false → AsksFor (codes "plan" ∷ codes "d" ∷ codes "p" ∷ codes "--budget" ∷ codes "7" ∷ []) (Plan w)
unfolding clap_on_literals
plan_words w domain problem scale horizon budget order = (
  refl,
  subst (λ o. AsksSearch (subcommand_of tempo_app (codes "plan" ∷ codes "d" ∷ codes "p" ∷ codes "--budget" ∷ codes "7" ∷ [])) o w) (sym order) (
    _,
    refl,
    record {
      domain = ap Some (sym domain);
      problem = ap Some (sym problem);
      scale = spelled (codes "1") _ refl (sym scale);
      horizon = spelled (codes "1000000") _ refl (sym horizon);
      within = omega (arith, horizon);
      budget = spelled (codes "7") _ refl (sym budget);
      most = omega (arith, budget);
    },
    (
      (λ given. cc),
      (λ is. let e : 102 ≡ 116 = ap text_letter is in absurd (omega (arith, e))),
    ),
  ),
)

-- the same where it is to tell how far it is
pub plan_progress_words : (w : SearchWords) → w.domain.now ≡ codes "d" → w.problem.now ≡ codes "p" → scale_ticks w.scale ≡ 1 → w.horizon ≡ 1000000 → w.budget ≡ 7 → w.order ≡ Lacking true → AsksFor (codes "plan" ∷ codes "d" ∷ codes "p" ∷ codes "--budget" ∷ codes "7" ∷ codes "--progress" ∷ []) (Plan w)
unfolding clap_on_literals
plan_progress_words w domain problem scale horizon budget order = (
  refl,
  subst (λ o. AsksSearch (subcommand_of tempo_app (codes "plan" ∷ codes "d" ∷ codes "p" ∷ codes "--budget" ∷ codes "7" ∷ codes "--progress" ∷ [])) o w) (sym order) (
    _,
    refl,
    record {
      domain = ap Some (sym domain);
      problem = ap Some (sym problem);
      scale = spelled (codes "1") _ refl (sym scale);
      horizon = spelled (codes "1000000") _ refl (sym horizon);
      within = omega (arith, horizon);
      budget = spelled (codes "7") _ refl (sym budget);
      most = omega (arith, budget);
    },
    ((λ given. refl), (λ is. refl)),
  ),
)

-- the same of the other search, with one of its two wishes
pub solve_words : (w : SearchWords) (wishes : Wishes) → w.domain.now ≡ codes "d" → w.problem.now ≡ codes "p" → scale_ticks w.scale ≡ 1 → w.horizon ≡ 1000000 → w.budget ≡ 1000000 → w.order ≡ Guided wishes → wishes.improve ≡ true → wishes.progress ≡ false → AsksFor (codes "solve" ∷ codes "d" ∷ codes "p" ∷ codes "--improve" ∷ []) (Plan w)
unfolding clap_on_literals
solve_words w wishes domain problem scale horizon budget order improve progress = (
  refl,
  subst (λ o. AsksSearch (subcommand_of tempo_app (codes "solve" ∷ codes "d" ∷ codes "p" ∷ codes "--improve" ∷ [])) o w) (sym order) (
    _,
    refl,
    record {
      domain = ap Some (sym domain);
      problem = ap Some (sym problem);
      scale = spelled (codes "1") _ refl (sym scale);
      horizon = spelled (codes "1000000") _ refl (sym horizon);
      within = omega (arith, horizon);
      budget = spelled (codes "1000000") _ refl (sym budget);
      most = omega (arith, budget);
    },
    ((λ given. refl), (λ is. improve)),
    (
      (λ given. let no : false ≡ true = sym progress ∙ given in cc),
      (λ is. let e : 102 ≡ 116 = ap text_letter is in absurd (omega (arith, e))),
    ),
  ),
)

-- the file of a journal
pub audit_words : (w : PlanWords) → w.plan.now ≡ codes "l" → AsksFor (codes "audit" ∷ codes "l" ∷ []) (Audit w.plan)
unfolding clap_on_literals
audit_words w log = (refl, (_, refl, ap Some (sym log), refl, (One, spelled (codes "1") _ refl refl)))

-- the files of a plan, up to where it is drawn, and a journal
pub draw_words : (w : DrawWords) (v : PlanWords) → w.domain.now ≡ codes "d" → w.problem.now ≡ codes "p" → w.plan.now ≡ codes "l" → scale_ticks w.scale ≡ 1 → w.horizon ≡ Some 9 → w.journal ≡ Some v.plan → v.plan.now ≡ codes "j" → AsksFor (codes "draw" ∷ codes "d" ∷ codes "p" ∷ codes "l" ∷ codes "--horizon" ∷ codes "9" ∷ codes "--journal" ∷ codes "j" ∷ []) (Draw w)
unfolding clap_on_literals
draw_words w v domain problem plan scale horizon journal log = (
  refl,
  (
    _,
    refl,
    record {
      domain = ap Some (sym domain);
      problem = ap Some (sym problem);
      plan = ap Some (sym plan);
      scale = spelled (codes "1") _ refl (sym scale);
      until = subst (IsUntil (Some (codes "9")) (Some (codes "9"))) (sym horizon) (spelled (codes "9") _ refl refl, omega arith);
      journal = ap (option_map (λ s. s.now)) journal ∙ ap Some log;
    },
  ),
)

-- the command that a parse names; a call without words is one of `bare`
abbrev named_command : Option (Text × List Row) → Text
named_command None = codes "bare"
named_command (Some named) = named.0

-- `bare` and `run`
abbrev keeps_journal : ℕ → Bool
keeps_journal letter = nat_eq letter 98 || nat_eq letter 114

-- the file for a journal, of the commands that take one
abbrev journal_of : Text → Option Text → Option Text
journal_of name given = if keeps_journal (first_letter name) then given else None

abbrev named_journal : Option (Text × List Row) → Option Text
named_journal None = None
named_journal (Some named) = journal_of named.0 (first_of (codes "journal") named.1)

-- a text where the words are without a fault
abbrev when_free : List ErrorKind → Option Text → Option Text
when_free [] t = t
when_free (k ∷ ks) t = None

free_is : (faults : List ErrorKind) (t u : Option Text) → faults ≡ [] → u ≡ t → u ≡ when_free faults t
free_is [] t u none is = is
free_is (k ∷ ks) t u none is = cc

help_is : (faults : List ErrorKind) (t : Option Text) → IsAmong DisplayHelp faults ⊎ IsAmong DisplayVersion faults → None ≡ when_free faults t
help_is [] t (inl help) = absurd help
help_is [] t (inr version) = absurd version
help_is (k ∷ ks) t asks = refl

-- the file of a domain, of the commands that take one
abbrev domain_of : Text → Option Text → Option Text
domain_of name given = if nat_eq (first_letter name) 98 then None else given

abbrev named_domain : Option (Text × List Row) → Option Text
named_domain None = None
named_domain (Some named) = domain_of named.0 (first_of (codes "DOMAIN") named.1)

abbrev second_letter : Text → ℕ
second_letter [] = 0
second_letter (x ∷ xs) = first_letter xs

-- the file of the agents, of the command that takes one
abbrev owners_of : Text → Option Text → Option Text
owners_of name given = if nat_eq (second_letter name) 112 then given else None

abbrev named_owners : Option (Text × List Row) → Option Text
named_owners None = None
named_owners (Some named) = owners_of named.0 (first_of (codes "OWNERS") named.1)

bare_command_is : (named : Option (Text × List Row)) → NamesBare named → Some (codes "bare") ≡ Some (named_command named)
bare_command_is None h = refl
bare_command_is (Some named) h = ap Some (sym h.0)

bare_journal_is : (named : Option (Text × List Row)) → NamesBare named → None ≡ named_journal named
bare_journal_is None h = refl
bare_journal_is (Some named) h = sym (ap₂ journal_of h.0 h.1)

bare_domain_is : (named : Option (Text × List Row)) → NamesBare named → None ≡ named_domain named
bare_domain_is None h = refl
bare_domain_is (Some named) h = sym (ap (λ name. domain_of name (first_of (codes "DOMAIN") named.1)) h.0)

bare_owners_is : (named : Option (Text × List Row)) → NamesBare named → None ≡ named_owners named
bare_owners_is None h = refl
bare_owners_is (Some named) h = sym (ap (λ name. owners_of name (first_of (codes "OWNERS") named.1)) h.0)

command_is : (named : Option (Text × List Row)) (name : Text) (rows : List Row) → named ≡ Some (name, rows) → Some name ≡ Some (named_command named)
command_is named name rows is = ap Some (sym (ap named_command is))

journal_is : (named : Option (Text × List Row)) (name : Text) (rows : List Row) (t : Option Text) → named ≡ Some (name, rows) → t ≡ named_journal (Some (name, rows)) → t ≡ named_journal named
journal_is named name rows t is same = same ∙ sym (ap named_journal is)

search_command_is : (named : Option (Text × List Row)) (o : Order) (w : SearchWords) → AsksSearch named o w → Some (order_command o) ≡ Some (named_command named)
search_command_is named (Lacking progress) w h = command_is _ (codes "plan") h.0 h.1
search_command_is named (Guided wishes) w h = command_is _ (codes "solve") h.0 h.1

search_journal_is : (named : Option (Text × List Row)) (o : Order) (w : SearchWords) → AsksSearch named o w → None ≡ named_journal named
search_journal_is named (Lacking progress) w h = journal_is _ (codes "plan") h.0 None h.1 refl
search_journal_is named (Guided wishes) w h = journal_is _ (codes "solve") h.0 None h.1 refl

-- what words ask for is of the command that a parse of them names
asks_command : (words : List Text) (r : Request) → AsksFor words r → command_name r ≡ when_free (fault_of tempo_app words) (Some (named_command (subcommand_of tempo_app words)))
asks_command words Bare h = free_is _ _ _ h.0 (bare_command_is _ h.1)
asks_command words (BareLog log) h = free_is _ _ _ h.0 (command_is _ (codes "bare") h.1.0 h.1.1)
asks_command words (BareResume old log) h = free_is _ _ _ h.0 (command_is _ (codes "bare") h.1.0 h.1.1)
asks_command words (Check w) h = free_is _ _ _ h.0 (command_is _ (codes "check") h.1.0 h.1.1)
asks_command words (Net w) h = free_is _ _ _ h.0 (command_is _ (codes "net") h.1.0 h.1.1)
asks_command words (Run w) h = free_is _ _ _ h.0 (command_is _ (codes "run") h.1.0 h.1.1)
asks_command words (RunLog w log) h = free_is _ _ _ h.0 (command_is _ (codes "run") h.1.0 h.1.1)
asks_command words (RunResume w old log) h = free_is _ _ _ h.0 (command_is _ (codes "run") h.1.0 h.1.1)
asks_command words (Plan w) h = free_is _ _ _ h.0 (search_command_is _ w.order w h.1)
asks_command words (Audit log) h = free_is _ _ _ h.0 (command_is _ (codes "audit") h.1.0 h.1.1)
asks_command words (PlanAudit log w) h = free_is _ _ _ h.0 (command_is _ (codes "audit") h.1.0 h.1.1)
asks_command words (Split w owners) h = free_is _ _ _ h.0 (command_is _ (codes "split") h.1.0 h.1.1)
asks_command words (Part w owners agent) h = free_is _ _ _ h.0 (command_is _ (codes "split") h.1.0 h.1.1)
asks_command words (Draw w) h = free_is _ _ _ h.0 (command_is _ (codes "draw") h.1.0 h.1.1)
asks_command words (Help text) h = help_is _ _ h

-- and its journal goes to the file that they name
asks_journal : (words : List Text) (r : Request) → AsksFor words r → journal_name r ≡ when_free (fault_of tempo_app words) (named_journal (subcommand_of tempo_app words))
asks_journal words Bare h = free_is _ _ _ h.0 (bare_journal_is _ h.1)
asks_journal words (BareLog log) h = free_is _ _ _ h.0 (journal_is _ (codes "bare") h.1.0 _ h.1.1 (sym h.1.2))
asks_journal words (BareResume old log) h = free_is _ _ _ h.0 (journal_is _ (codes "bare") h.1.0 _ h.1.1 (sym h.1.2))
asks_journal words (Check w) h = free_is _ _ _ h.0 (journal_is _ (codes "check") h.1.0 None h.1.1 refl)
asks_journal words (Net w) h = free_is _ _ _ h.0 (journal_is _ (codes "net") h.1.0 None h.1.1 refl)
asks_journal words (Run w) h = free_is _ _ _ h.0 (journal_is _ (codes "run") h.1.0 None h.1.1 (sym h.1.2))
asks_journal words (RunLog w log) h = free_is _ _ _ h.0 (journal_is _ (codes "run") h.1.0 _ h.1.1 (sym h.1.2))
asks_journal words (RunResume w old log) h = free_is _ _ _ h.0 (journal_is _ (codes "run") h.1.0 _ h.1.1 (sym h.1.2))
asks_journal words (Plan w) h = free_is _ _ _ h.0 (search_journal_is _ w.order w h.1)
asks_journal words (Audit log) h = free_is _ _ _ h.0 (journal_is _ (codes "audit") h.1.0 None h.1.1 refl)
asks_journal words (PlanAudit log w) h = free_is _ _ _ h.0 (journal_is _ (codes "audit") h.1.0 None h.1.1 refl)
asks_journal words (Split w owners) h = free_is _ _ _ h.0 (journal_is _ (codes "split") h.1.0 None h.1.1 refl)
asks_journal words (Part w owners agent) h = free_is _ _ _ h.0 (journal_is _ (codes "split") h.1.0 None h.1.1 refl)
asks_journal words (Draw w) h = free_is _ _ _ h.0 (journal_is _ (codes "draw") h.1.0 None h.1.1 refl)
asks_journal words (Help text) h = help_is _ _ h

domain_is : (named : Option (Text × List Row)) (name : Text) (rows : List Row) (t : Option Text) → named ≡ Some (name, rows) → t ≡ named_domain (Some (name, rows)) → t ≡ named_domain named
domain_is named name rows t is same = same ∙ sym (ap named_domain is)

search_domain_is : (named : Option (Text × List Row)) (o : Order) (w : SearchWords) → AsksSearch named o w → Some w.domain.now ≡ named_domain named
search_domain_is named (Lacking progress) w h = domain_is _ (codes "plan") h.0 _ h.1 (sym h.2.domain)
search_domain_is named (Guided wishes) w h = domain_is _ (codes "solve") h.0 _ h.1 (sym h.2.domain)

-- and of the domain in the file that they name
asks_domain : (words : List Text) (r : Request) → AsksFor words r → domain_name r ≡ when_free (fault_of tempo_app words) (named_domain (subcommand_of tempo_app words))
asks_domain words Bare h = free_is _ _ _ h.0 (bare_domain_is _ h.1)
asks_domain words (BareLog log) h = free_is _ _ _ h.0 (domain_is _ (codes "bare") h.1.0 None h.1.1 refl)
asks_domain words (BareResume old log) h = free_is _ _ _ h.0 (domain_is _ (codes "bare") h.1.0 None h.1.1 refl)
asks_domain words (Check w) h = free_is _ _ _ h.0 (domain_is _ (codes "check") h.1.0 _ h.1.1 (sym h.1.2.domain))
asks_domain words (Net w) h = free_is _ _ _ h.0 (domain_is _ (codes "net") h.1.0 _ h.1.1 (sym h.1.2.domain))
asks_domain words (Run w) h = free_is _ _ _ h.0 (domain_is _ (codes "run") h.1.0 _ h.1.1 (sym h.1.4.domain))
asks_domain words (RunLog w log) h = free_is _ _ _ h.0 (domain_is _ (codes "run") h.1.0 _ h.1.1 (sym h.1.4.domain))
asks_domain words (RunResume w old log) h = free_is _ _ _ h.0 (domain_is _ (codes "run") h.1.0 _ h.1.1 (sym h.1.4.domain))
asks_domain words (Plan w) h = free_is _ _ _ h.0 (search_domain_is _ w.order w h.1)
asks_domain words (Audit log) h = free_is _ _ _ h.0 (domain_is _ (codes "audit") h.1.0 None h.1.1 (sym h.1.3))
asks_domain words (PlanAudit log w) h = free_is _ _ _ h.0 (domain_is _ (codes "audit") h.1.0 _ h.1.1 (sym h.1.3.domain))
asks_domain words (Split w owners) h = free_is _ _ _ h.0 (domain_is _ (codes "split") h.1.0 _ h.1.1 (sym h.1.4.domain))
asks_domain words (Part w owners agent) h = free_is _ _ _ h.0 (domain_is _ (codes "split") h.1.0 _ h.1.1 (sym h.1.5.domain))
asks_domain words (Draw w) h = free_is _ _ _ h.0 (domain_is _ (codes "draw") h.1.0 _ h.1.1 (sym h.1.2.domain))
asks_domain words (Help text) h = help_is _ _ h

owners_is : (named : Option (Text × List Row)) (name : Text) (rows : List Row) (t : Option Text) → named ≡ Some (name, rows) → t ≡ named_owners (Some (name, rows)) → t ≡ named_owners named
owners_is named name rows t is same = same ∙ sym (ap named_owners is)

search_owners_is : (named : Option (Text × List Row)) (o : Order) (w : SearchWords) → AsksSearch named o w → None ≡ named_owners named
search_owners_is named (Lacking progress) w h = owners_is _ (codes "plan") h.0 None h.1 refl
search_owners_is named (Guided wishes) w h = owners_is _ (codes "solve") h.0 None h.1 refl

-- and of the agents in the file that they name
asks_owners : (words : List Text) (r : Request) → AsksFor words r → owners_name r ≡ when_free (fault_of tempo_app words) (named_owners (subcommand_of tempo_app words))
asks_owners words Bare h = free_is _ _ _ h.0 (bare_owners_is _ h.1)
asks_owners words (BareLog log) h = free_is _ _ _ h.0 (owners_is _ (codes "bare") h.1.0 None h.1.1 refl)
asks_owners words (BareResume old log) h = free_is _ _ _ h.0 (owners_is _ (codes "bare") h.1.0 None h.1.1 refl)
asks_owners words (Check w) h = free_is _ _ _ h.0 (owners_is _ (codes "check") h.1.0 None h.1.1 refl)
asks_owners words (Net w) h = free_is _ _ _ h.0 (owners_is _ (codes "net") h.1.0 None h.1.1 refl)
asks_owners words (Run w) h = free_is _ _ _ h.0 (owners_is _ (codes "run") h.1.0 None h.1.1 refl)
asks_owners words (RunLog w log) h = free_is _ _ _ h.0 (owners_is _ (codes "run") h.1.0 None h.1.1 refl)
asks_owners words (RunResume w old log) h = free_is _ _ _ h.0 (owners_is _ (codes "run") h.1.0 None h.1.1 refl)
asks_owners words (Plan w) h = free_is _ _ _ h.0 (search_owners_is _ w.order w h.1)
asks_owners words (Audit log) h = free_is _ _ _ h.0 (owners_is _ (codes "audit") h.1.0 None h.1.1 refl)
asks_owners words (PlanAudit log w) h = free_is _ _ _ h.0 (owners_is _ (codes "audit") h.1.0 None h.1.1 refl)
asks_owners words (Split w owners) h = free_is _ _ _ h.0 (owners_is _ (codes "split") h.1.0 _ h.1.1 (sym h.1.2))
asks_owners words (Part w owners agent) h = free_is _ _ _ h.0 (owners_is _ (codes "split") h.1.0 _ h.1.1 (sym h.1.2))
asks_owners words (Draw w) h = free_is _ _ _ h.0 (owners_is _ (codes "draw") h.1.0 None h.1.1 refl)
asks_owners words (Help text) h = help_is _ _ h

abbrev named_resume : Option (Text × List Row) → Option Text
named_resume None = None
named_resume (Some named) = journal_of named.0 (first_of (codes "resume") named.1)

bare_resume_is : (named : Option (Text × List Row)) → NamesBare named → None ≡ named_resume named
bare_resume_is None h = refl
bare_resume_is (Some named) h = sym (ap₂ journal_of h.0 h.2)

resume_is : (named : Option (Text × List Row)) (name : Text) (rows : List Row) (t : Option Text) → named ≡ Some (name, rows) → t ≡ named_resume (Some (name, rows)) → t ≡ named_resume named
resume_is named name rows t is same = same ∙ sym (ap named_resume is)

search_resume_is : (named : Option (Text × List Row)) (o : Order) (w : SearchWords) → AsksSearch named o w → None ≡ named_resume named
search_resume_is named (Lacking progress) w h = resume_is _ (codes "plan") h.0 None h.1 refl
search_resume_is named (Guided wishes) w h = resume_is _ (codes "solve") h.0 None h.1 refl

-- and goes on from the journal that they name
asks_resume : (words : List Text) (r : Request) → AsksFor words r → resume_name r ≡ when_free (fault_of tempo_app words) (named_resume (subcommand_of tempo_app words))
asks_resume words Bare h = free_is _ _ _ h.0 (bare_resume_is _ h.1)
asks_resume words (BareLog log) h = free_is _ _ _ h.0 (resume_is _ (codes "bare") h.1.0 None h.1.1 (sym h.1.3))
asks_resume words (BareResume old log) h = free_is _ _ _ h.0 (resume_is _ (codes "bare") h.1.0 _ h.1.1 (sym h.1.3))
asks_resume words (Check w) h = free_is _ _ _ h.0 (resume_is _ (codes "check") h.1.0 None h.1.1 refl)
asks_resume words (Net w) h = free_is _ _ _ h.0 (resume_is _ (codes "net") h.1.0 None h.1.1 refl)
asks_resume words (Run w) h = free_is _ _ _ h.0 (resume_is _ (codes "run") h.1.0 None h.1.1 (sym h.1.3))
asks_resume words (RunLog w log) h = free_is _ _ _ h.0 (resume_is _ (codes "run") h.1.0 None h.1.1 (sym h.1.3))
asks_resume words (RunResume w old log) h = free_is _ _ _ h.0 (resume_is _ (codes "run") h.1.0 _ h.1.1 (sym h.1.3))
asks_resume words (Plan w) h = free_is _ _ _ h.0 (search_resume_is _ w.order w h.1)
asks_resume words (Audit log) h = free_is _ _ _ h.0 (resume_is _ (codes "audit") h.1.0 None h.1.1 refl)
asks_resume words (PlanAudit log w) h = free_is _ _ _ h.0 (resume_is _ (codes "audit") h.1.0 None h.1.1 refl)
asks_resume words (Split w owners) h = free_is _ _ _ h.0 (resume_is _ (codes "split") h.1.0 None h.1.1 refl)
asks_resume words (Part w owners agent) h = free_is _ _ _ h.0 (resume_is _ (codes "split") h.1.0 None h.1.1 refl)
asks_resume words (Draw w) h = free_is _ _ _ h.0 (resume_is _ (codes "draw") h.1.0 None h.1.1 refl)
asks_resume words (Help text) h = help_is _ _ h

-- no words ask for two kinds of things
pub distinct : (words : List Text) → AskForOneThing words
distinct words =
    record {
      command = λ r s one other. asks_command words r one ∙ sym (asks_command words s other);
      journal = λ r s one other. asks_journal words r one ∙ sym (asks_journal words s other);
      domain = λ r s one other. asks_domain words r one ∙ sym (asks_domain words s other);
      owners = λ r s one other. asks_owners words r one ∙ sym (asks_owners words s other);
      resume = λ r s one other. asks_resume words r one ∙ sym (asks_resume words s other);
    }
