use Rattle.std.proofs.Common.{◌≡◌, ℕ, Option, None, sym, subst}
use Rattle.sim_printer.specs.Printer.{Page}
use Rattle.sim_sheet.specs.Sheet.{Prints}
use Rattle.sim_sheet.proofs.Laws.{nothing}
use Rattle.sim_audit_page.specs.Summary.{first_of}
use Rattle.sim_audit_page.proofs.first.Goals as goal

no_first : (p : Page) (o : Option ℕ) → o ≡ None → Prints (first_of o) p p
no_first p o e = subst (λ (x : Option ℕ). Prints (first_of x) p p) (sym e) (nothing p)

pub returns-in-None : goal.returns-in-None
returns-in-None c = no_first _ _ c.in-None.is
