use Rattle.std.proofs.Common.{[], ◌∷◌, ◌++◌, sym, ap, ap₂, subst, ◌∙◌}
use Rattle.std.specs.List.{All}
use Rattle.std.proofs.lemmas.List.{take_more}
use Rattle.std.proofs.lemmas.List.Elements.{All-push}
use Rattle.tp_happen.specs.declared.meetings.Meeting.TheVariants.{ChangedAndAsked}
use Rattle.tp_search.specs.Sides.{IsSide, all_ways, ways_of}
use Rattle.tp_search.proofs.OnSides.{ways_more}
use Rattle.tp_search.proofs.sides.sides_of_event.Goals as goal

pub loop-way-preserved : goal.loop-way-preserved
loop-way-preserved c =
    let e = c.args.event.now in
    let sides = c.loop-way.sides.items in
    let side = c.in_ok-side_of.field-0 in
    record {
      ways =
          ap ways_of c.in_ok-push.ensures.items
          ∙ (ways_more sides side
          ∙ (ap₂ (λ ways way. ways ++ way ∷ []) c.loop-way.invariant.ways c.in_ok-side_of.ensures.way
          ∙ sym (take_more all_ways c.loop-way.way-index ChangedAndAsked c.loop-way-test.true)));
      each = subst (All (IsSide e)) (sym c.in_ok-push.ensures.items) (All-push (IsSide e) sides side c.loop-way.invariant.each c.in_ok-side_of.ensures.side);
    }
