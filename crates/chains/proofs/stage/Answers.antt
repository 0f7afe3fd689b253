use mathlib.Core.Path.{◌≡◌, sym, ◌∙◌}
use mathlib.Core.Bool.{true, not}
use Prim.Native.Nat.{suc}
use native.Mathlib.Omega.{arith}
use Rattle.meaning.specs.Sharing.{sound_frame, sound_zone}
use Rattle.chains.specs.Columns.{next_in, zone_kw}
use Rattle.chains.proofs.Laws.{stage_out, stage_frame, stage_zone, stage_passes}
use Rattle.chains.proofs.Searches.{answered_below}
use Rattle.chains.proofs.stage.Goals as goal
use Rattle.chains.proofs.stage.Goals.{then-zones-gt32-via-then-zones-gt32, then-zones-gt32-via-else-zones-gt32+then-not-sound}

pub returns-then-zones-gt32 : goal.returns-then-zones-gt32
returns-then-zones-gt32 c =
    let a = c.args in
    elim c.then-zones-gt32.branch [
      | then-zones-gt32-via-then-zones-gt32 w ↦ stage_out a.share.now a.zones a.tec w.if-zones-gt32.true
      | then-zones-gt32-via-else-zones-gt32+then-not-sound w ↦ stage_frame a.share.now a.zones a.tec w.if-zones-gt32.false (sym w.sound.ensures ∙ w.if-not-sound.true)
    ]

pub overflow_add-result : goal.overflow_add-result
overflow_add-result c =
    let a = c.args in
    let below = answered_below (λ i. not (sound_zone c.args.zones (zone_kw c.args.tec) (next_in c.inward-next.result) (suc i))) a.zones (sym c.first_unsound.ensures ∙ c.in-Some.is) in
    omega (arith, below)

pub returns-in-Some : goal.returns-in-Some
returns-in-Some c =
    let a = c.args in
    let sound : sound_frame c.args.share.now c.args.zones ≡ true = sym c.sound.ensures ∙ c.if-not-sound.false in
    stage_zone a.share.now a.zones a.tec c.if-zones-gt32.false sound (rw c.inward-next.ensures at (sym c.first_unsound.ensures ∙ c.in-Some.is))

pub returns : goal.returns
returns c =
    let a = c.args in
    let sound : sound_frame c.args.share.now c.args.zones ≡ true = sym c.sound.ensures ∙ c.if-not-sound.false in
    stage_passes a.share.now a.zones a.tec c.if-zones-gt32.false sound (rw c.inward-next.ensures at (sym c.first_unsound.ensures ∙ c.in_default.is))
