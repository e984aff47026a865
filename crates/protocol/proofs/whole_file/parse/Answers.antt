use Rattle.std.proofs.Common.{◌≡◌, Ok, subst, inl}
use Rattle.reading.specs.Files.{read_through}
use Rattle.protocol.specs.Reading.{begun, ended, taken}
use Rattle.protocol.specs.Records.{ProtocolV}
use Rattle.protocol.specs.Views.{draft_seen}
use Rattle.protocol.proofs.LawWhole.{lawful_whole}
use Rattle.protocol.proofs.whole_file.parse.Goals as goal

pub invariant_of-result : goal.invariant_of-result
invariant_of-result c =
    let text = c.args.bytes.now in
    let after = draft_seen c.read_file.new.reader in
    let said : read_through (λ draft number line. taken draft line) ended begun text ≡ Ok after =
    subst (λ (made : ProtocolV). read_through (λ draft number line. taken draft line) ended (record { row = 0; made = made }) text ≡ Ok after)
    c.empty.ensures.the_empty_protocol c.in_ok-read_file.ensures.all_its_lines_or_its_first_fault in
    record { lawful_or_empty = ∣ inl (lawful_whole text after said) ∣₁ }
