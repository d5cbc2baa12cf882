use Rattle.std.proofs.Common.{◌++◌, codes, List, ℕ, sym, subst}
use Rattle.dsu_io.specs.Sinks.{PutAppends}
use Rattle.dsu_report.specs.declared.fault.FaultLine.{FaultLine}
use Rattle.dsu_report.specs.Faults.{fault_line, usage_text}
use Rattle.dsu_report.proofs.write.write_fault.Goals as goal

pub returns-in-Usage-clause-bytes : goal.returns-in-Usage-clause-bytes
unfolding usage_text
returns-in-Usage-clause-bytes g c =
    let appends = PutAppends (g.S.Sink.told c.args.sink.now) (g.S.Sink.told c.put.new.sink) c.put.result in
    subst {A = FaultLine} (λ f. appends (fault_line f c.args.file.now)) (sym c.in-Usage.is)
    (subst {A = List ℕ} appends c.as_bytes.ensures.value c.put.ensures.bytes)

pub returns-in-Unread-clause-bytes : goal.returns-in-Unread-clause-bytes
returns-in-Unread-clause-bytes g c =
    let appends = PutAppends (g.S.Sink.told c.args.sink.now) (g.S.Sink.told c.put_all.new.sink) c.put_all.result in
    subst {A = FaultLine} (λ f. appends (fault_line f c.args.file.now)) (sym c.in-Unread.is)
    (subst {A = List ℕ} (λ file. appends (file ++ codes ": read fault\n")) c.as_bytes-file.ensures.value c.put_all.ensures.bytes)

pub returns-in-TooLong-clause-bytes : goal.returns-in-TooLong-clause-bytes
returns-in-TooLong-clause-bytes g c =
    let appends = PutAppends (g.S.Sink.told c.args.sink.now) (g.S.Sink.told c.put_all-in-TooLong.new.sink) c.put_all-in-TooLong.result in
    subst {A = FaultLine} (λ f. appends (fault_line f c.args.file.now)) (sym c.in-TooLong.is)
    (subst {A = List ℕ} (λ file. appends (file ++ codes ": too long\n")) c.as_bytes-file.ensures.value c.put_all-in-TooLong.ensures.bytes)
