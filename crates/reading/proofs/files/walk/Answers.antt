use Rattle.std.proofs.Common.{rules, ◌≡◌, Ok, Err, refl, sym}
use Rattle.text.specs.Lines.{cut}
use Rattle.text.specs.declared.faults.FileFault.TheVariants.{Line}
use Rattle.text.specs.declared.faults.LineFault.{LineFault}
use Rattle.reading.proofs.Turns.{refused, uncut}
use Rattle.reading.proofs.files.walk.Goals as goal

pub returns-in_err-line : goal.returns-in_err-line
returns-in_err-line g c =
    let none_cut : (fault : LineFault) × (cut c.loop-rest.rest.now ≡ Err fault) × (c.in_err-line.field-0.0 ≡ Line (record { line = c.loop-rest.number; fault = fault })) = search rules in
    let stopped = uncut g.R.Reader.step g.R.Reader.ended none_cut.0 (g.R.Reader.seen c.loop-rest.reader) c.loop-rest.number c.loop-rest.rest.now _ none_cut.1 (sym c.loop-rest-test.ensures.ended_and_nothing_left) c.loop-rest.invariant.0 in
    search rules

pub returns-in_err-take : goal.returns-in_err-take
returns-in_err-take g c =
    let state = g.R.Reader.seen c.loop-rest.reader in
    let cut_is : cut c.loop-rest.rest.now ≡ Ok (c.in_ok-line.line.now, c.in_ok-line.after.now) = search rules in
    let stopped = refused g.R.Reader.step g.R.Reader.ended (g.R.Fault.Fault.file_fault c.in_err-take.field-0.0) _ state c.loop-rest.number c.loop-rest.rest.now c.in_ok-line.line.now
    c.in_ok-line.after.now _ cut_is refl c.in_err-take.ensures.what_is_made_of_the_line c.loop-rest.invariant.0 in
    search rules
