use mathlib.Core.Path.{◌≡◌, sym, ◌∙◌}
use Rattle.integers.proofs.Machine.{Back, fit_back}
use Rattle.meaning.specs.Direction.{counts_for}
use Rattle.numbers.proofs.Counts.{heading_is}
use Rattle.numbers.proofs.heading_of.Goals as goal

pub returns-in-YearRound : goal.returns-in-YearRound
returns-in-YearRound c =
    let bf : Back c.args.year_round × Back c.args.peak = (fit_back c.ranges.year_round, fit_back c.ranges.peak) in
    let counted : c.counts_for-counting.result ≡ let a = c.args in counts_for a.edition a.mark a.year_round a.peak = simp ((bf).0, (bf).1) at c.counts_for-counting.ensures in
    rw (bf).0 (heading_is _ _ _ _ _ counted _ (sym c.in-YearRound.is ∙ c.background_of.ensures))

pub returns-in-Peak : goal.returns-in-Peak
returns-in-Peak c =
    let bf : Back c.args.year_round × Back c.args.peak = (fit_back c.ranges.year_round, fit_back c.ranges.peak) in
    let counted : c.counts_for-counting.result ≡ let a = c.args in counts_for a.edition a.mark a.year_round a.peak = simp ((bf).0, (bf).1) at c.counts_for-counting.ensures in
    rw (bf).1 (heading_is _ _ _ _ _ counted _ (sym c.in-Peak.is ∙ c.background_of.ensures))
