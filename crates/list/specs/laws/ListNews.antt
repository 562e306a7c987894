-- The news of a world that is reached in playing a list: too low for 17.
use Rattle.std.specs.Prelude.{ℕ, ◌+◌, ◌*◌, ◌≤◌, true, List, ◌≡◌, length}
use Rattle.std.proofs.Common.{arith}
use Rattle.choice.specs.laws.Cases.{by_equal}
use Rattle.world.specs.declared.World.{World}
use Rattle.world.specs.Sizes.{list_bytes, store_bytes}
use Rattle.world.specs.Valid.{valid_world}
use Rattle.world.specs.laws.WorldLaws.{valid-sized}
use Rattle.header.specs.Headers.{header_of, header_weights, header_length, header_world}
use Rattle.header.specs.laws.HeaderLaws.{length_some}
use Rattle.play.specs.Commands.{play_command, one_command}
use Rattle.play.proofs.laws.CallLaws.{one-is_play}
use Rattle.safety.specs.Claims.{Shaped}
use Rattle.safety.proofs.laws.Unchanging.{accepted_keeps_the_rest}
use Rattle.safety.proofs.laws.News.{fresh-none}
use Rattle.list.specs.laws.Places.{Told}
use Rattle.list.specs.laws.CommandLaws.{news-told}
use Rattle.list.specs.laws.PlayLaws.{Further, further-one}

-- a world at a place of its list: at most fifteen news for each delivery before it, of four bytes each
pub record Heard (w : World) (at : ℕ) : Type 0 where
  pub deliveries : ℕ
  pub fifteen : w.news ≤ 15 * deliveries
  pub four : 4 * deliveries + 5 ≤ at

pub header-none : (list : List ℕ) → (header_world list).news ≡ 0
unfolding header_world
header-none list = fresh-none (header_of list).n (header_weights list) (header_of list).commit (header_of list).abort (header_of list).willing

pub heard-first : (list : List ℕ) → Heard (header_world list) (header_length list)
heard-first list =
    record { deliveries = 0; fifteen = omega (arith, header-none list); four = omega (arith, length_some list) }

pub heard-low : (w : World) (at : ℕ) → Heard w at → at ≤ list_bytes → w.news ≤ 122850
heard-low w at h few = omega (arith, h.fifteen, h.four, few)

heard-more : (w after : World) (at next news : ℕ) → w.n ≤ 16 → Told w at next news → after.news ≡ w.news + news → at ≤ next →
    Heard w at → Heard after next
heard-more w after at next news most t e further h =
    by_equal news 0
    (λ none. record {
      deliveries = h.deliveries;
      fifteen = omega (arith, h.fifteen, e, none);
      four = omega (arith, h.four, further);
    })
    (λ some. record {
      deliveries = h.deliveries + 1;
      fifteen = omega (arith, h.fifteen, e, t.others, most);
      four = omega (arith, h.four, t.four (omega (arith, some)));
    })

pub heard-on :
    (w : World) (store list : List ℕ) (at : ℕ) → store_bytes ≤ length store → valid_world w ≡ true → Shaped w →
    (one_command w store list at).number ≡ 0 → Heard w at → Heard (one_command w store list at).world (one_command w store list at).place
heard-on w store list at room valid shaped e h =
    let same : one_command w store list at ≡ play_command w store list at = one-is_play w store list at room valid in
    let told : Told w at (one_command w store list at).place (one_command w store list at).news =
    rw same (news-told w store list at (rw same at e)) in
    let k : Further list at (one_command w store list at) = further-one w store list at room valid shaped e in
    heard-more w (one_command w store list at).world at (one_command w store list at).place (one_command w store list at).news
    (valid-sized w valid).high told (accepted_keeps_the_rest w store list at e).news-added (omega (arith, k.after)) h
