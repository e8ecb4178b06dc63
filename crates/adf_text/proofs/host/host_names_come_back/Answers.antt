use Rattle.adf_text.proofs.Common.{ap, ◌∙◌, All-same, percent_decode, IsByte, host_letters, host_name}
use Rattle.std.specs.Str.{chars}
use Rattle.adf_text.proofs.HostLemmas.{chars-host_name, All-host_bytes, percent_decode-host_letters}
use Rattle.adf_text.proofs.host.host_names_come_back.Goals as goal

pub returns : goal.returns
returns c = λ name is.
    let letters = chars-host_name name is in
    (All-same IsByte (chars (host_name name)) (host_letters name) letters (All-host_bytes name is), ap percent_decode letters ∙ percent_decode-host_letters name is)
