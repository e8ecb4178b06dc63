use Rattle.adf_export.proofs.lines.push_entry.Goals as goal

pub returns-in-Bytes : goal.returns-in-Bytes
returns-in-Bytes c = rw c.in-Bytes.is c.push_line.ensures

pub returns-in-Letters : goal.returns-in-Letters
returns-in-Letters c = rw c.in-Letters.is c.push_line-in-Letters.ensures

pub returns-in-Long : goal.returns-in-Long
returns-in-Long c = rw c.in-Long.is c.push_long.ensures

pub returns-in-Bold : goal.returns-in-Bold
returns-in-Bold c = rw c.in-Bold.is c.push_long-in-Bold.ensures

pub returns-in-Json : goal.returns-in-Json
returns-in-Json c = rw c.in-Json.is c.push_object.ensures
