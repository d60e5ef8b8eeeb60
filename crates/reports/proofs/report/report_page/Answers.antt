use Rattle.std.proofs.Common.{◌≡◌, ℕ, List, Err, rules}
use Rattle.pages.specs.declared.faults.PageFault.{PageFault}
use Rattle.pages.specs.Reading.{read_page}
use Rattle.pages.specs.Laws.{Accepted, FirstWrong}
use Rattle.pages.proofs.Round.{Octets, accepted_exactly}
use Rattle.pages.proofs.Earlier.{first_wrong}
use Rattle.reports.proofs.report.report_page.Goals as goal

-- what is told of a page, and the laws of the page file
told : {T F : Type 0} (bytes : List ℕ) → Octets bytes → T → F
    → record { text : T; fault : F; exactly : Accepted bytes; first_wrong : (f : PageFault) → read_page bytes ≡ Err f → FirstWrong bytes f }
told bytes all text fault =
    record { text = text; fault = fault; exactly = accepted_exactly bytes all; first_wrong = λ f e. first_wrong bytes f all e }

pub returns-in_err-text-in-Err-Page : goal.returns-in_err-text-in-Err-Page
returns-in_err-text-in-Err-Page c = told c.args.page.now (λ i. (c.type_inv.page i).fits) (search rules) (search rules)

pub returns-in-Ok : goal.returns-in-Ok
returns-in-Ok c = told c.args.page.now (λ i. (c.type_inv.page i).fits) (search rules) (search rules)

pub returns-in_ok-text-in-Err-Page : goal.returns-in_ok-text-in-Err-Page
returns-in_ok-text-in-Err-Page c = told c.args.page.now (λ i. (c.type_inv.page i).fits) (search rules) (search rules)

pub returns-in-Err-Memory : goal.returns-in-Err-Memory
returns-in-Err-Memory c = told c.args.page.now (λ i. (c.type_inv.page i).fits) (search rules) (search rules)
