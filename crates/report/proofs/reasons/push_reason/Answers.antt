use Rattle.report.proofs.reasons.push_reason.Goals as goal

pub returns-in-Source : goal.returns-in-Source
returns-in-Source c = rw c.in-Source.is c.push_change.ensures

pub returns-in-Flags : goal.returns-in-Flags
returns-in-Flags c = rw c.in-Flags.is c.push_change-in-Flags.ensures
