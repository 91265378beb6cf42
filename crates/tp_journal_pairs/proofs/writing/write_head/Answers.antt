use Rattle.std.proofs.Common.{◌≡◌, ◌++◌, ap, sym, ◌∙◌, map, append_assoc}
use Rattle.std.proofs.lemmas.Result.{err_from_is_err_and}
use Rattle.tp_bounds.specs.Setting.{event_count}
use Rattle.std.proofs.KnownBytes.{Appends-trans}
use Rattle.tp_device.proofs.Parts.{part_first, part_after, writes_after}
use Rattle.tp_journal_pairs.specs.Journal.{head_of, head_lines, kind_lines, own_of, lag_line, lags_of, text_of}
use Rattle.tp_journal_pairs.proofs.WriteLemmas.{start_text, head_bytes}
use Rattle.tp_journal_pairs.proofs.writing.write_head.Goals as goal

pub returns-in_err-write_start-clause-bytes : goal.returns-in_err-write_start-clause-bytes
returns-in_err-write_start-clause-bytes g c =
    let p = err_from_is_err_and c.from_residual.result c.from_residual.ensures.1 in
    let m = c.args.executive.now in
    let es : event_count m.setting ≡ c.events.result = sym (c.events.ensures.count ∙ ap event_count c.net.ensures) in
    let hs : m.setting.horizon ≡ c.horizon.result = sym (c.horizon.ensures ∙ ap (λ s. s.horizon) c.net-2.ensures) in
    let kind = text_of (kind_lines (own_of m)) in
    let lags = text_of (map lag_line (lags_of m)) in
    let is : text_of (head_lines (head_of 2 m)) ≡ start_text c.events.result c.horizon.result ++ (kind ++ lags) =
    head_bytes m ∙ (ap (λ n. (start_text n m.setting.horizon ++ kind) ++ lags) es ∙ (ap (λ n. (start_text c.events.result n ++ kind) ++ lags) hs ∙ append_assoc (start_text c.events.result c.horizon.result) kind lags)) in
    rw p.1 (part_first _ _ (start_text c.events.result c.horizon.result) (kind ++ lags) _ is c.in_err-write_start.ensures.bytes)

pub returns-in_err-write_kind-clause-bytes : goal.returns-in_err-write_kind-clause-bytes
returns-in_err-write_kind-clause-bytes g c =
    let p = err_from_is_err_and c.from_residual-in_err-write_kind.result c.from_residual-in_err-write_kind.ensures.1 in
    let m = c.args.executive.now in
    let es : event_count m.setting ≡ c.events.result = sym (c.events.ensures.count ∙ ap event_count c.net.ensures) in
    let hs : m.setting.horizon ≡ c.horizon.result = sym (c.horizon.ensures ∙ ap (λ s. s.horizon) c.net-2.ensures) in
    let kind = text_of (kind_lines (own_of m)) in
    let lags = text_of (map lag_line (lags_of m)) in
    let is : text_of (head_lines (head_of 2 m)) ≡ start_text c.events.result c.horizon.result ++ (kind ++ lags) =
    head_bytes m ∙ (ap (λ n. (start_text n m.setting.horizon ++ kind) ++ lags) es ∙ (ap (λ n. (start_text c.events.result n ++ kind) ++ lags) hs ∙ append_assoc (start_text c.events.result c.horizon.result) kind lags)) in
    rw p.1 (part_after (g.V.Sink.held c.args.log.now) (g.V.Sink.held c.write_start.new.log) (g.V.Sink.held c.write_kind.new.log) (start_text c.events.result c.horizon.result) kind lags _ is c.in_ok-write_start.ensures.bytes c.in_err-write_kind.ensures.bytes)

pub returns-clause-bytes : goal.returns-clause-bytes
returns-clause-bytes g c =
    let m = c.args.executive.now in
    let es : event_count m.setting ≡ c.events.result = sym (c.events.ensures.count ∙ ap event_count c.net.ensures) in
    let hs : m.setting.horizon ≡ c.horizon.result = sym (c.horizon.ensures ∙ ap (λ s. s.horizon) c.net-2.ensures) in
    let kind = text_of (kind_lines (own_of m)) in
    let lags = text_of (map lag_line (lags_of m)) in
    let is : text_of (head_lines (head_of 2 m)) ≡ (start_text c.events.result c.horizon.result ++ kind) ++ lags =
    head_bytes m ∙ (ap (λ n. (start_text n m.setting.horizon ++ kind) ++ lags) es ∙ ap (λ n. (start_text c.events.result n ++ kind) ++ lags) hs) in
    writes_after c.write_lags.result (g.V.Sink.held c.args.log.now) (g.V.Sink.held c.write_kind.new.log) _ (start_text c.events.result c.horizon.result ++ kind) lags _ is
    (Appends-trans (g.V.Sink.held c.args.log.now) (g.V.Sink.held c.write_start.new.log) (g.V.Sink.held c.write_kind.new.log) (start_text c.events.result c.horizon.result) kind c.in_ok-write_start.ensures.bytes c.in_ok-write_kind.ensures.bytes)
    c.write_lags.ensures.bytes
