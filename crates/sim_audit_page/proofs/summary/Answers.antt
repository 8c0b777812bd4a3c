use Rattle.std.proofs.Common.{◌≡◌, Bool, subst}
use Rattle.sim_printer.specs.Printer.{Page}
use Rattle.sim_sheet.specs.Sheet.{Prints}
use Rattle.sim_sheet.proofs.Laws.{onward}
use Rattle.sim_audit_page.specs.Summary.{summary_of, verdict_of}
use Rattle.sim_audit_page.proofs.summary.Goals as goal

same_verdict : (p q : Page) (b c : Bool) → b ≡ c → Prints (verdict_of b) p q → Prints (verdict_of c) p q
same_verdict p q b c e h = subst (λ (x : Bool). Prints (verdict_of x) p q) e h

pub returns : goal.returns
unfolding summary_of
returns c =
    onward _ _ _ _ _ c.say.ensures (onward _ _ _ _ _ c.line.ensures (onward _ _ _ _ _ c.line-2.ensures (onward _ _ _ _ _ c.line-3.ensures
    (onward _ _ _ _ _ c.line-4.ensures (onward _ _ _ _ _ c.line-5.ensures (onward _ _ _ _ _ c.first.ensures
    (same_verdict _ _ _ _ c.passes.ensures c.verdict.ensures)))))))
