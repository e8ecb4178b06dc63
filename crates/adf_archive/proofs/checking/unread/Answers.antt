use Rattle.std.proofs.Common.{[]}
use Rattle.adf_archive.proofs.Sizes.{size_shown}
use Rattle.adf_archive.proofs.checking.unread.Goals as goal

pub returns-in-Size : goal.returns-in-Size
returns-in-Size c = λ detail.
    let shown = size_shown c.in-Size.refused.fault in
    (shown.0, record { is = shown.1; each = λ wanted. tt; one = λ first. tt })

pub returns-in-Read : goal.returns-in-Read
returns-in-Read c = λ detail. ([], record { is = tt; each = λ wanted. tt; one = λ first. tt })

pub returns-in-Memory : goal.returns-in-Memory
returns-in-Memory c = λ detail. ([], record { is = tt; each = λ wanted. tt; one = λ first. tt })

pub returns-in-TurnLimit : goal.returns-in-TurnLimit
returns-in-TurnLimit c = λ detail. ([], record { is = tt; each = λ wanted. tt; one = λ first. tt })
