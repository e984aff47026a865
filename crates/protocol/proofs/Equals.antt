-- The derived test of two protocols decides whether they say the same.
use Rattle.std.proofs.Common.{◌≡◌, Decides, vec_items, ap}
use Rattle.std.proofs.lemmas.Bool.Decides.{Decides-and, Decides-like}
use Rattle.std.proofs.lemmas.Slice.Eq.{bytes_eq-Decides}
use Rattle.names.specs.Names.{spelled}
use Rattle.tables.proofs.Equals.{numbers_decide, types_decide, variables_decide, terms_decide}
use Rattle.rules.proofs.Equals.{rules_decide}
use Rattle.protocol.specs.Answers.{protocol_seen}
use Rattle.protocol.specs.Views.{parts_seen}
use Rattle.protocol.specs.contracts.parts.PartsPartialEq.TheImpl as parts
use Rattle.protocol.specs.contracts.record.ProtocolPartialEq.TheImpl as protocol
use Rattle.protocol.specs.declared.parts.Parts.{Parts}
use Rattle.protocol.specs.declared.record.Protocol.{Protocol}

parts_decide : (x y : Parts) → Decides (parts.ghosts.eq x y) (parts_seen x ≡ parts_seen y)
parts_decide x y =
    Decides-like _
    (λ p i. record { name = p.0 i; types = p.1.0 i; variables = p.1.1.0 i; terms = p.1.1.1.0 i; initial = p.1.1.1.1.0 i; rules = p.1.1.1.1.1 i })
    (λ e. (ap (λ t. t.name) e, (ap (λ t. t.types) e, (ap (λ t. t.variables) e, (ap (λ t. t.terms) e, (ap (λ t. t.initial) e, ap (λ t. t.rules) e))))))
    (Decides-and _ _ (bytes_eq-Decides (spelled x.name) (spelled y.name))
    (Decides-and _ _ (types_decide x.types y.types)
    (Decides-and _ _ (variables_decide x.variables y.variables)
    (Decides-and _ _ (terms_decide x.terms y.terms)
    (Decides-and _ _ (numbers_decide (vec_items x.initial) (vec_items y.initial)) (rules_decide x.rules y.rules))))))

pub protocols_decide : (x y : Protocol) → Decides (protocol.ghosts.eq x y) (protocol_seen x ≡ protocol_seen y)
protocols_decide x y = parts_decide x.parts y.parts
