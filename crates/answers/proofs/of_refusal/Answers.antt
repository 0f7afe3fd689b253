use mathlib.Core.Path.{sym, ap, ◌∙◌}
use Rattle.meaning.specs.declared.Refusal.{Refusal}
use Rattle.std.specs.Prelude.{Err}
use Rattle.meaning.specs.Answers.{values}
use Rattle.answers.proofs.of_refusal.Goals as goal

pub returns-in-BadFile : goal.returns-in-BadFile
unfolding values
returns-in-BadFile c = c.refusal.ensures ∙ sym (ap (λ (r : Refusal). values (Err r)) c.in-BadFile.is)

pub returns-in-BadSetting : goal.returns-in-BadSetting
unfolding values
returns-in-BadSetting c = c.refusal-in-BadSetting.ensures ∙ sym (ap (λ (r : Refusal). values (Err r)) c.in-BadSetting.is)

pub returns-in-BadNode : goal.returns-in-BadNode
unfolding values
returns-in-BadNode c = c.refusal-in-BadNode.ensures ∙ sym (ap (λ (r : Refusal). values (Err r)) c.in-BadNode.is)

pub returns-in-BadCircuit : goal.returns-in-BadCircuit
unfolding values
returns-in-BadCircuit c = c.refusal-in-BadCircuit.ensures ∙ sym (ap (λ (r : Refusal). values (Err r)) c.in-BadCircuit.is)

pub returns-in-BadStation : goal.returns-in-BadStation
unfolding values
returns-in-BadStation c = c.refusal-in-BadStation.ensures ∙ sym (ap (λ (r : Refusal). values (Err r)) c.in-BadStation.is)

pub returns-in-Unreached : goal.returns-in-Unreached
unfolding values
returns-in-Unreached c = c.refusal-in-Unreached.ensures ∙ sym (ap (λ (r : Refusal). values (Err r)) c.in-Unreached.is)

pub returns-in-BadTotal : goal.returns-in-BadTotal
unfolding values
returns-in-BadTotal c = c.refusal-in-BadTotal.ensures ∙ sym (ap (λ (r : Refusal). values (Err r)) c.in-BadTotal.is)

pub returns-in-BadNumber : goal.returns-in-BadNumber
unfolding values
returns-in-BadNumber c = rw c.system_number.ensures at c.refusal-in-BadNumber.ensures ∙ sym (ap (λ (r : Refusal). values (Err r)) c.in-BadNumber.is)

pub returns-in-Unbalanced : goal.returns-in-Unbalanced
unfolding values
returns-in-Unbalanced c = rw c.system_number-in-Unbalanced.ensures at c.refusal-in-Unbalanced.ensures ∙ sym (ap (λ (r : Refusal). values (Err r)) c.in-Unbalanced.is)

pub returns-in-MissesTooHigh : goal.returns-in-MissesTooHigh
unfolding values
returns-in-MissesTooHigh c = rw c.system_number-in-MissesTooHigh.ensures at c.refusal-in-MissesTooHigh.ensures ∙ sym (ap (λ (r : Refusal). values (Err r)) c.in-MissesTooHigh.is)

pub returns-in-DirectionInDoubt : goal.returns-in-DirectionInDoubt
unfolding values
returns-in-DirectionInDoubt c = rw c.system_number-in-DirectionInDoubt.ensures at c.refusal-in-DirectionInDoubt.ensures ∙ sym (ap (λ (r : Refusal). values (Err r)) c.in-DirectionInDoubt.is)

pub returns-in-ShortBuffer : goal.returns-in-ShortBuffer
unfolding values
returns-in-ShortBuffer c = c.refusal-in-ShortBuffer.ensures ∙ sym (ap (λ (r : Refusal). values (Err r)) c.in-ShortBuffer.is)

pub returns-in-NoChargeableTec : goal.returns-in-NoChargeableTec
unfolding values
returns-in-NoChargeableTec c = c.refusal-in-NoChargeableTec.ensures ∙ sym (ap (λ (r : Refusal). values (Err r)) c.in-NoChargeableTec.is)

pub returns-in-Unscalable : goal.returns-in-Unscalable
unfolding values
returns-in-Unscalable c = c.refusal-in-Unscalable.ensures ∙ sym (ap (λ (r : Refusal). values (Err r)) c.in-Unscalable.is)

pub returns-in-BackgroundInDoubt : goal.returns-in-BackgroundInDoubt
unfolding values
returns-in-BackgroundInDoubt c = c.refusal-in-BackgroundInDoubt.ensures ∙ sym (ap (λ (r : Refusal). values (Err r)) c.in-BackgroundInDoubt.is)

pub returns-in-BadShare : goal.returns-in-BadShare
unfolding values
returns-in-BadShare c = c.refusal-in-BadShare.ensures ∙ sym (ap (λ (r : Refusal). values (Err r)) c.in-BadShare.is)
