use Rattle.clap.specs.Words.{found_of, one_of, rows_of}
use Rattle.std.proofs.Common.{subst, sym}
use Rattle.tp_cli_args.specs.Requests.{IsFlag}
use Rattle.tp_cli_args.proofs.ArgumentLemmas.{is_flag}
use Rattle.tp_cli_args.proofs.arguments.flag.Goals as goal

pub returns : goal.returns
returns c =
    let f = found_of c.args.matches.now in
    let id = c.args.id.now in
    subst (IsFlag (one_of id (rows_of f))) (sym c.unwrap_or.ensures)
    (is_flag _ f id c.get_one.result c.get_one.ensures.none c.get_one.ensures.value)
