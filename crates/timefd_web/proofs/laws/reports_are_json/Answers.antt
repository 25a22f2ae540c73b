use Rattle.timefd_web.proofs.ReportValueLemmas.{reports_are_json}
use Rattle.timefd_web.proofs.laws.reports_are_json.Goals as goal

pub returns : goal.returns
returns c = reports_are_json
