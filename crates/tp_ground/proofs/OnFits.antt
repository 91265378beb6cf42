-- A body that says what is written out changes only atoms and fluents that there are: their words are never empty,
-- and past the end of a table there are none.
use Rattle.std.proofs.Common.{◌≡◌, ℕ, zero, suc, ◌<◌, Bool, true, false, if◌then◌else◌, List, [], ◌∷◌, length, map, refl, ap, ◌∙◌, nat_lt, arith}
use Rattle.std.specs.List.{list_all, flat_map}
use Rattle.std.proofs.lemmas.Bool.{lt-ltb, and_parts, and_from}
use Rattle.std.proofs.lemmas.List.Folds.{list_all-append}
use Rattle.tp_syntax_ast.specs.Parts.{Joined, Parts, all_parts, for_each, one, no_parts, part}
use Rattle.tp_syntax_ast.specs.Effects as effects
use Rattle.tp_syntax_ast.specs.Effects.{SimpleEffect, Effect, Timed}
use Rattle.tp_syntax_ast.specs.Actions as actions
use Rattle.tp_syntax_ast.specs.declared.words.TimeSpecifier.{TimeSpecifier}
use Rattle.tp_syntax_ast.specs.declared.words.TimeSpecifier.TheVariants.{AtStart, AtEnd}
use Rattle.tp_task.specs.Words.{Words}
use Rattle.tp_ground_bindings.specs.Bindings.{Universe, Env}
use Rattle.tp_task.specs.Tables.{Tables, words_at}
use Rattle.tp_task.specs.Fits.{event_fits, body_fits}
use Rattle.tp_ground_bodies.specs.Written.{GroundEffect, GroundHappening, GroundBody, adds, deletes, writes, added, deleted, written, inner, parts_in, all_parts_in, simple_effect_part, simple_effects_part, simple_effects_in, simple_effects_at, is_specifier, instant, durative, body_in}
use Rattle.tp_ground_bodies.specs.ReadBack.{named_write, named_event, named_body}
use Rattle.tp_task.specs.declared.events.NumericEffect.{NumericEffect}
use Rattle.tp_task.specs.declared.events.GroundEvent.{GroundEvent}
use Rattle.tp_task.specs.declared.events.Body.{Body}
use Rattle.tp_task.specs.declared.events.Body.TheVariants.{Instant, Durative}

abbrev pub are_words : Words → Bool
are_words [] = false
are_words (w ∷ ws) = true

abbrev pub has_words : GroundEffect → Bool
has_words (adds w) = are_words w
has_words (deletes w) = are_words w
has_words (writes w) = are_words w.fluent

-- ---- numbers of words that are not empty are in range

pub in_range : (ws : List Words) (i : ℕ) → are_words (words_at ws i) ≡ true → i < length ws
in_range [] i h = cc
in_range (w ∷ ws) zero h = omega arith
in_range (w ∷ ws) (suc i) h = let k : i < length ws = in_range ws i h in omega arith

all_in_range : (ws : List Words) (xs : List ℕ) → list_all are_words (map (words_at ws) xs) ≡ true → list_all (λ a. nat_lt a (length ws)) xs ≡ true
all_in_range ws [] h = refl
all_in_range ws (a ∷ xs) h =
    let p = and_parts (are_words (words_at ws a)) (list_all are_words (map (words_at ws) xs)) h in
    and_from (nat_lt a (length ws)) _ (lt-ltb a (length ws) (in_range ws a p.0)) (all_in_range ws xs p.1)

writes_in_range : (t : Tables) (ws : List NumericEffect) → list_all (λ w. are_words w.fluent) (map (named_write t) ws) ≡ true → list_all (λ w. nat_lt w.fluent (length t.fluents)) ws ≡ true
writes_in_range t [] h = refl
writes_in_range t (w ∷ ws) h =
    let p = and_parts (are_words (words_at t.fluents w.fluent)) (list_all (λ v. are_words v.fluent) (map (named_write t) ws)) h in
    and_from (nat_lt w.fluent (length t.fluents)) _ (lt-ltb w.fluent (length t.fluents) (in_range t.fluents w.fluent p.0)) (writes_in_range t ws p.1)

-- ---- simple effects that are written out have words

module _ {A B : Type 0} (ok : B → Bool) (u : Universe) (read : Env → A → List B) (each : (env : Env) (a : A) → list_all ok (read env a) ≡ true) where
  over : (envs : List Env) (f : Env → List B) → ((env : Env) → list_all ok (f env) ≡ true) → list_all ok (flat_map f envs) ≡ true
  over [] f h = refl
  over (e ∷ es) f h = list_all-append ok (f e) (flat_map f es) ∙ and_from (list_all ok (f e)) _ (h e) (over es f h)

  mutual
    pub parts_ok : (env : Env) (j : Joined A) → list_all ok (parts_in u read env j) ≡ true
    parts_ok env (all_parts ps) = all_parts_ok env ps
    parts_ok env (for_each vs p) = over (inner u env vs) (λ e. parts_in u read e p) (λ e. parts_ok e p)
    parts_ok env (one a) = each env a

    pub all_parts_ok : (env : Env) (ps : Parts A) → list_all ok (all_parts_in u read env ps) ≡ true
    all_parts_ok env no_parts = refl
    all_parts_ok env (part p ps) = list_all-append ok (parts_in u read env p) (all_parts_in u read env ps) ∙ and_from (list_all ok (parts_in u read env p)) _ (parts_ok env p) (all_parts_ok env ps)

simple_effect_ok : (u : Universe) (m : TimeSpecifier) (env : Env) (o : SimpleEffect) → list_all has_words (simple_effect_part u m env o) ≡ true
simple_effect_ok u m env (effects.adds f) = refl
simple_effect_ok u m env (effects.deletes f) = refl
simple_effect_ok u m env (effects.writes w f x) = refl

pub simple_effects_ok : (u : Universe) (env : Env) (e : Effect) → list_all has_words (simple_effects_in u env e) ≡ true
simple_effects_ok u env e = parts_ok has_words u (simple_effect_part u AtStart) (simple_effect_ok u AtStart) env e

timed_ok : (u : Universe) (m : TimeSpecifier) (env : Env) (t : Timed Effect) → list_all has_words (simple_effects_part u m env t) ≡ true
timed_ok u m env t = by (is_specifier t.specifier m)
  where
    by : (b : Bool) → list_all has_words (if b then simple_effects_in u env t.what else []) ≡ true
    by true = simple_effects_ok u env t.what
    by false = refl

pub simple_effects_at_ok : (u : Universe) (m : TimeSpecifier) (env : Env) (e : Joined (Timed Effect)) → list_all has_words (simple_effects_at u m env e) ≡ true
simple_effects_at_ok u m env e = parts_ok has_words u (simple_effects_part u m) (timed_ok u m) env e

pub added_ok : (os : List GroundEffect) → list_all has_words os ≡ true → list_all are_words (added os) ≡ true
added_ok [] h = refl
added_ok (adds w ∷ os) h = let p = and_parts (are_words w) (list_all has_words os) h in and_from (are_words w) _ p.0 (added_ok os p.1)
added_ok (deletes w ∷ os) h = added_ok os (and_parts (are_words w) (list_all has_words os) h).1
added_ok (writes w ∷ os) h = added_ok os (and_parts (are_words w.fluent) (list_all has_words os) h).1

pub deleted_ok : (os : List GroundEffect) → list_all has_words os ≡ true → list_all are_words (deleted os) ≡ true
deleted_ok [] h = refl
deleted_ok (adds w ∷ os) h = deleted_ok os (and_parts (are_words w) (list_all has_words os) h).1
deleted_ok (deletes w ∷ os) h = let p = and_parts (are_words w) (list_all has_words os) h in and_from (are_words w) _ p.0 (deleted_ok os p.1)
deleted_ok (writes w ∷ os) h = deleted_ok os (and_parts (are_words w.fluent) (list_all has_words os) h).1

pub written_ok : (os : List GroundEffect) → list_all has_words os ≡ true → list_all (λ w. are_words w.fluent) (written os) ≡ true
written_ok [] h = refl
written_ok (adds w ∷ os) h = written_ok os (and_parts (are_words w) (list_all has_words os) h).1
written_ok (deletes w ∷ os) h = written_ok os (and_parts (are_words w) (list_all has_words os) h).1
written_ok (writes w ∷ os) h = let p = and_parts (are_words w.fluent) (list_all has_words os) h in and_from (are_words w.fluent) _ p.0 (written_ok os p.1)

-- ---- events and bodies

pub event_fits_of : (t : Tables) (e : GroundEvent) (os : List GroundEffect) → list_all has_words os ≡ true → map (words_at t.atoms) e.adds.items ≡ added os → map (words_at t.atoms) e.deletes.items ≡ deleted os → map (named_write t) e.writes.items ≡ written os → event_fits (length t.atoms) (length t.fluents) e ≡ true
event_fits_of t e os ok a d w =
    and_from _ _ (all_in_range t.atoms e.adds.items (ap (list_all are_words) a ∙ added_ok os ok))
    (and_from _ _ (all_in_range t.atoms e.deletes.items (ap (list_all are_words) d ∙ deleted_ok os ok))
    (writes_in_range t e.writes.items (ap (list_all (λ v. are_words v.fluent)) w ∙ written_ok os ok)))

abbrev instant_part : GroundBody → GroundHappening → GroundHappening
instant_part (instant h) d = h
instant_part (durative s e i) d = d

abbrev start_part : GroundBody → GroundHappening → GroundHappening
start_part (instant h) d = d
start_part (durative s e i) d = s

abbrev end_part : GroundBody → GroundHappening → GroundHappening
end_part (instant h) d = d
end_part (durative s e i) d = e

pub body_fits_of : (t : Tables) (b : Body) (u : Universe) (env : Env) (a : actions.Body) → named_body t b ≡ body_in u env a → body_fits (length t.atoms) (length t.fluents) b ≡ true
body_fits_of t (Instant e) u env (actions.instant c f) is =
    let h : named_event t e ≡ instant_part (body_in u env (actions.instant c f)) (named_event t e) = ap (λ b. instant_part b (named_event t e)) is in
    event_fits_of t e (simple_effects_in u env f) (simple_effects_ok u env f) (ap (λ k. k.adds) h) (ap (λ k. k.deletes) h) (ap (λ k. k.writes) h)
body_fits_of t (Instant e) u env (actions.durative r c f) is = cc
body_fits_of t (Durative start end between) u env (actions.instant c f) is = cc
body_fits_of t (Durative start end between) u env (actions.durative r c f) is =
    let s : named_event t start ≡ start_part (body_in u env (actions.durative r c f)) (named_event t start) = ap (λ b. start_part b (named_event t start)) is in
    let e : named_event t end ≡ end_part (body_in u env (actions.durative r c f)) (named_event t end) = ap (λ b. end_part b (named_event t end)) is in
    and_from _ _
    (event_fits_of t start (simple_effects_at u AtStart env f) (simple_effects_at_ok u AtStart env f) (ap (λ k. k.adds) s) (ap (λ k. k.deletes) s) (ap (λ k. k.writes) s))
    (event_fits_of t end (simple_effects_at u AtEnd env f) (simple_effects_at_ok u AtEnd env f) (ap (λ k. k.adds) e) (ap (λ k. k.deletes) e) (ap (λ k. k.writes) e))
