-- A call that is listened to ends as one that is not.
use Rattle.std.proofs.Common.{◌≡◌, ℕ, List, Option, Some, None, option_map, sym, subst}
use Rattle.tp_cli.specs.CallFiles.{CallFiles}
use Rattle.tp_cli.specs.Streams.{Ends}

ends_in : {W H : Type 0} (inner : H → W) (contents : W → Option (List ℕ)) (words : List (List ℕ)) (files : CallFiles) (input held faults : Option (List ℕ)) (status : ℕ) (output : Option H) (faults-now : Option (List ℕ)) → Ends words files input held faults (λ h. contents (inner h)) status output faults-now → Ends words files input held faults contents status (option_map inner output) faults-now
ends_in inner contents words files input held faults status None faults-now e =
    record { output_holds = e.output_holds; refused = e.refused; within = e.within; silent = e.silent; fault = e.fault; stopped = e.stopped; unlogged = e.unlogged }
ends_in inner contents words files input held faults status (Some h) faults-now e =
    record { output_holds = e.output_holds; refused = e.refused; within = e.within; silent = e.silent; fault = e.fault; stopped = e.stopped; unlogged = e.unlogged }

ends_as : {W H : Type 0} (inner : H → W) (contents : W → Option (List ℕ)) (words : List (List ℕ)) (files : CallFiles) (input held faults : Option (List ℕ)) (status status-now : ℕ) (output : Option H) (output-now : Option W) (faults-now : Option (List ℕ)) → status-now ≡ status → output-now ≡ option_map inner output → Ends words files input held faults (λ h. contents (inner h)) status output faults-now → Ends words files input held faults contents status-now output-now faults-now
ends_as inner contents words files input held faults status status-now output output-now faults-now same is e =
    subst (λ o. Ends words files input held faults contents status-now o faults-now) (sym is)
    (subst (λ n. Ends words files input held faults contents n (option_map inner output) faults-now) (sym same)
    (ends_in inner contents words files input held faults status output faults-now e))

pub heard_ends : {W H F : Type 0} (inner : H → W) (contents : W → Option (List ℕ)) (told : F → Option (List ℕ)) (words : List (List ℕ)) (files : CallFiles) (input held faults : Option (List ℕ)) (status status-now : ℕ) (output : Option H) (output-now : Option W) (were now : F) → status-now ≡ status → output-now ≡ option_map inner output → now ≡ were → Ends words files input held faults (λ h. contents (inner h)) status output (told were) → Ends words files input held faults contents status-now output-now (told now)
heard_ends inner contents told words files input held faults status status-now output output-now were now same is kept e =
    subst (λ f. Ends words files input held faults contents status-now output-now (told f)) (sym kept)
    (ends_as inner contents words files input held faults status status-now output output-now (told were) same is e)
