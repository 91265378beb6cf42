-- Further lines that are entered one after another.
use Rattle.std.proofs.Common.{◌≡◌, ℕ, ◌+◌, List, [], ◌++◌, Option, refl, ap, sym, ◌∙◌}
use Rattle.std.specs.Prelude.{Ok, Err}
use Rattle.std.specs.Io.KnownBytes.{Appends}
use Rattle.std.proofs.lemmas.Grind.{flat_map-append}
use Rattle.std.proofs.KnownBytes.{Appends-trans, Appends-nil}
use Rattle.tp_device.proofs.Parts.{appends_is}
use Rattle.tp_exec_machine.specs.Machine.{Machine}
use Rattle.tp_script.specs.Pending.{Reading}
use Rattle.tp_script.specs.Reading.{TakesWhole}
use Rattle.tp_script.specs.Serving.{commands_of}
use Rattle.tp_script.proofs.ServeLemmas.{goes_none, goes_more}
use Rattle.tp_journal_pairs.specs.Journal.{Entry, pair_lines, text_of}
use Rattle.tp_journal_pairs.specs.Writing.{Enters, pairs_text}
use Rattle.tp_journal_pairs.specs.GoingOn.{Follows}
use Rattle.tp_journal_pairs.proofs.WriteLemmas.{enters_answers, enters_more, enters_runs, runs_more, text_more}

pub pairs_join : (es fs : List Entry) → pairs_text (es ++ fs) ≡ pairs_text es ++ pairs_text fs
pairs_join es fs = ap text_of (flat_map-append pair_lines es fs) ∙ text_more _ _

pub follows_none : (m : Machine) (r : Reading) (h log : Option (List ℕ)) → Follows m m r r h h log log 0
unfolding goes_none
follows_none m r h log =
    record { goes = goes_none m r h; entries = []; ran = (refl, refl, refl); runs = refl; logs = Appends-nil log }

pub follows_more : (old mid new : Machine) (start before after : Reading) (held now then log logged further : Option (List ℕ)) (n k : ℕ) (line piece : List ℕ) (fs : List Entry) → Follows old mid start before held now log logged n → TakesWhole before after line → Enters mid line fs piece new → Appends now then piece → Appends logged further (pairs_text fs) → k ≡ commands_of line → Follows old new start after held then log further (n + k)
unfolding goes_more
follows_more old mid new start before after held now then log logged further n k line piece fs r took enters written logs is =
    record {
      goes = goes_more old mid new start before after held now then n k line piece r.goes took (enters_answers mid new line fs piece enters) written is;
      entries = r.entries ++ fs;
      ran = enters_more r.goes.lines old mid new r.entries fs r.goes.text line piece r.ran enters;
      runs = runs_more old mid new r.entries fs r.runs (enters_runs mid new line fs piece enters);
      logs = appends_is log further _ _ (sym (pairs_join r.entries fs)) (Appends-trans log logged further (pairs_text r.entries) (pairs_text fs) r.logs logs);
    }
