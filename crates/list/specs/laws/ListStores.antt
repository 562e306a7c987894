-- Over a whole list the store keeps its bytes beyond the last row.
use Rattle.std.specs.Prelude.{ℕ, List, refl, length, get_or}
use Rattle.std.proofs.Common.{ap, sym, ◌∙◌}
use Rattle.header.specs.Headers.{header_world}
use Rattle.play.specs.Run.{run}
use Rattle.safety.specs.Claims.{Beyond}
use Rattle.safety.proofs.laws.RunStores.{runs_keep_beyond}
use Rattle.list.specs.Play.{Play, stopped, refused_list, play_list}
use Rattle.list.specs.Claims.{IsRun, KeptBeyond, ListKeepsBeyond}
use Rattle.list.specs.laws.ListTheorems.{by-run}

refused_keeps : (number : ℕ) (store : List ℕ) → KeptBeyond store (refused_list number store)
unfolding refused_list stopped
refused_keeps number store = record { same_length = refl; same_bytes = λ b _. refl }

run_keeps : (store list : List ℕ) (p : Play) → IsRun (header_world list) store list p → KeptBeyond store p
run_keeps store list p r =
    let k : Beyond (header_world list) store (run (header_world list) store p.asks) =
    runs_keep_beyond (header_world list) store p.asks in
    record {
      same_length = ap length (sym r.same_store) ∙ k.same_length;
      same_bytes = λ b h. ap (λ s. get_or s b 0) (sym r.same_store) ∙ k.same_bytes b (rw r.same-world h);
    }

pub list_keeps_beyond : ListKeepsBeyond
list_keeps_beyond store list =
    by-run (KeptBeyond store) store list (λ number. refused_keeps number store) (run_keeps store list (play_list store list))
