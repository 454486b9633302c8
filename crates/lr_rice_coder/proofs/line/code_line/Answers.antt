use Rattle.std.proofs.Common.{◌≡◌, ◌<◌, ℕ, List, length, arith, refl, subst, sym}
use Rattle.std.specs.Prelude.{Result, Ok, Err, IfErr}
use Rattle.lr_bits.specs.Sizes.{most_body_bytes}
use Rattle.lr_rice.specs.CodedLines.{Form, form_of}
use Rattle.lr_rice_coder.specs.declared.fault.CodeFault.{CodeFault}
use Rattle.lr_rice_coder.specs.declared.fault.CodeFault.TheVariants.{Long, NoMemory}
use Rattle.lr_rice_coder.specs.Coded.{ArePaddedBits, IsFault}
use Rattle.lr_rice_coder.specs.Shortest.{shortest_string}
use Rattle.lr_rice_coder.proofs.LawLemmas.{fillings_are_whole}
use Rattle.lr_rice_coder.proofs.line.code_line.Goals as goal

long_line : (result : Result (Unit {0}) CodeFault) (form : Form) (samples bytes : List ℕ)
    → (result ≡ Err Long → most_body_bytes < length bytes) → ArePaddedBits bytes (shortest_string form samples)
    → IfErr result (IsFault form samples)
long_line (Ok done) form samples bytes long fills = tt
long_line (Err Long) form samples bytes long fills =
    omega (arith, long refl, fillings_are_whole (shortest_string form samples) bytes fills)
long_line (Err NoMemory) form samples bytes long fills = tt

pub returns-clause-fault : goal.returns-clause-fault
returns-clause-fault c =
    let samples = c.args.samples.now in
    let string = shortest_string (form_of c.args.bits c.args.block (length samples)) samples in
    long_line c.append.result (form_of c.args.bits c.args.block (length samples)) samples c.deref.result.now
    c.append.ensures.long
    (subst (λ (l : List ℕ). ArePaddedBits l string) (sym c.deref.ensures.value) c.in-Ok.ensures)
