use Rattle.std.proofs.Common.{◌≡◌, ◌++◌, drop}
use Rattle.page_text.specs.Drawing.{drawn, drawn_to}
use Rattle.page_text.proofs.drawing.draw_all.Given as goal

-- what is left, behind what was drawn, is the whole
abbrev pub invariant-loop-it : goal.invariant-loop-it
invariant-loop-it g l = record {
  text : l.page ++ drawn g.D.Drawing.text g.D.Drawing.next l.drawing l.i (drop l.it-index l.list)
      ≡ l.fn.page ++ drawn g.D.Drawing.text g.D.Drawing.next l.fn.drawing 1 l.list;
  end : drawn_to g.D.Drawing.next l.drawing l.i (drop l.it-index l.list) ≡ drawn_to g.D.Drawing.next l.fn.drawing 1 l.list;
}
