-- `text::write_figures` meets its contract: no text, a short buffer, or the text copied to the front of the buffer.
use mathlib.Core.Path.{◌≡◌, sym, ◌∙◌}
use Prim.Native.Nat.{ℕ, ◌≤◌}
use native.Mathlib.Omega.{arith}
use lib.ListN.{length, take, replicate, length-replicate}
use Rattle.meaning.specs.Sheet.{sheet_text}
use Rattle.text.specs.Room.{room}
use Rattle.text.specs.SheetText.{shown_in, text_of}
use Rattle.lines.proofs.Making.{front}
use Rattle.text.proofs.Sizing.{written, says_sized, text_sized, text_none, fitted_written, fitted_short, fitted_none}
use Rattle.text.proofs.write_figures.Goals as goal

-- there is room aside for any text
wide : room ≤ length (replicate {A = ℕ} room 0)
wide = rw (length-replicate {A = ℕ} room 0) (omega arith)

pub put_figures-length-requires : goal.put_figures-length-requires
put_figures-length-requires c =
    let a = c.args in ((says_sized a.figures a.file.now a.rows).0 (sym c.sized.ensures ∙ c.if-sized.true), wide)

pub returns-then-out-length : goal.returns-then-out-length
returns-then-out-length c =
    let a = c.args in
    let whole = sheet_text (shown_in a.figures a.file.now a.rows) in
    let is_text : text_of a.figures a.file.now a.rows ≡ whole = text_sized a.figures a.file.now a.rows (sym c.sized.ensures ∙ c.if-sized.true) in
    let long = c.put_figures-length.ensures.next in
    rw is_text (fitted_short whole a.out.now _ (omega (arith, long, c.if-out-length.true)) (omega (arith, long)))

pub returns-then-sized : goal.returns-then-sized
returns-then-sized c =
    let a = c.args in
    let whole = sheet_text (shown_in a.figures a.file.now a.rows) in
    let is_text : text_of a.figures a.file.now a.rows ≡ whole = text_sized a.figures a.file.now a.rows (sym c.sized.ensures ∙ c.if-sized.true) in
    let room : length whole ≤ length a.out.now = omega (arith, c.put_figures-length.ensures.next, c.if-out-length.false) in
    let n = c.put_figures-length.result in
    let part : take n c.put_figures-length.new.out ≡ whole = front c.put_figures-length.ensures wide in
    rw is_text
    (fitted_written whole a.out.now _ _ room
    (written (rw part at c.put_bytes.ensures) room))

pub returns : goal.returns
returns c =
    let a = c.args in
    rw (text_none a.figures a.file.now a.rows (sym c.sized.ensures ∙ c.if-sized.false)) (fitted_none a.out.now)
