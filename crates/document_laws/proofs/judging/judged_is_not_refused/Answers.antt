use Rattle.site_laws.proofs.Fronts.{no_fault_in_front}
use Rattle.document_laws.proofs.Judged.{judged-stands, judge_refused-same}
use Rattle.document_laws.proofs.judging.judged_is_not_refused.Goals as goal

pub returns-clause-refused : goal.returns-clause-refused
returns-clause-refused c = λ bytes s cables line cause. judged-stands bytes s cables line cause

pub returns-clause-fault : goal.returns-clause-fault
returns-clause-fault c = λ bytes s cables base code place broken_line h. no_fault_in_front bytes h.rest s base code place broken_line h.front

pub returns-clause-refused_fault : goal.returns-clause-refused_fault
returns-clause-refused_fault c = λ bytes line cause base code place broken_line h. no_fault_in_front bytes h.rest h.site base code place broken_line h.front

pub returns-clause-one : goal.returns-clause-one
returns-clause-one c = λ bytes line there cause other h k. let same = judge_refused-same bytes line there cause other h k in (same.lines, same.causes)
