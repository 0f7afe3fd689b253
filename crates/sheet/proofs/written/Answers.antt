-- `sheet::written` meets its contract: 12 for a short buffer, else the text at its front.
use native.Mathlib.Omega.{arith}
use Rattle.sheet.proofs.Settles.{short_settled, text_settled}
use Rattle.layout.specs.Readable.{section_in}
use Rattle.text.specs.SheetText.{text_of}
use Rattle.text.specs.Writing.{Fitted}
use Rattle.sheet.proofs.written.Goals as goal

pub returns-then-out-length : goal.returns-then-out-length
returns-then-out-length c =
    let fitted : let a = c.args in Fitted (text_of a.figures a.file.now (section_in a.file.now 1)) a.out.now c.write_figures-length.new.out c.write_figures-length.result = rw c.section-nodes.ensures at c.write_figures-length.ensures in
    short_settled _ _ _ _ fitted (omega (arith, c.if-out-length.true, c.write_figures-length.auto))

pub returns : goal.returns
returns c =
    let fitted : let a = c.args in Fitted (text_of a.figures a.file.now (section_in a.file.now 1)) a.out.now c.write_figures-length.new.out c.write_figures-length.result = rw c.section-nodes.ensures at c.write_figures-length.ensures in
    text_settled _ _ _ _ fitted (omega (arith, c.if-out-length.false, c.write_figures-length.auto))
