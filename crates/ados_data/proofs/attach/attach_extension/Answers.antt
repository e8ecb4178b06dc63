use Rattle.ados_data.proofs.Common.{◌<◌, inl, inr, ℕ, ◌∙◌, arith, SECONDARY_TYPE, PARENT, NEXT_EXTENSION, same_long, AtExtensionFields}
use Rattle.ados_data.proofs.Untouched.{beside_field, sum_settled, empty_long, extension_kept}
use Rattle.ados_data.proofs.attach.attach_extension.Goals as goal

pub returns : goal.returns
returns c =
    let other = λ (n : ℕ) (l : n < 128). beside_field c.args.holder NEXT_EXTENSION c.set_settled.ensures.rest c.args.e n l (λ z. absurd (c.requires.apart z)) in
    record {
      fields = extension_kept c.make_extension.new.image c.set_settled.new.image c.args.file c.args.e
          (other 0 (omega arith)) (other 1 (omega arith)) (other PARENT (omega arith)) (other SECONDARY_TYPE (omega arith))
          (sum_settled c.args.holder NEXT_EXTENSION c.set_settled.ensures.rest c.set_settled.ensures.sum c.args.e (λ ne. c.make_extension.ensures.fields.sum))
          c.make_extension.ensures.fields;
      no_pointers = other 2 (omega arith) ∙ same_long (AtExtensionFields c.args.e) c.args.image.now c.make_extension.new.image c.make_extension.ensures.rest c.args.e 2 (omega arith) (λ k m at. omega (arith, m, at.1))
          ∙ empty_long c.args.image.now c.args.e c.requires.empty 2 (omega arith);
      no_next = other NEXT_EXTENSION (omega arith) ∙ same_long (AtExtensionFields c.args.e) c.args.image.now c.make_extension.new.image c.make_extension.ensures.rest c.args.e NEXT_EXTENSION (omega arith) (λ k m at. omega (arith, m, at.1))
          ∙ empty_long c.args.image.now c.args.e c.requires.empty NEXT_EXTENSION (omega arith);
      link = c.set_settled.ensures.long;
      sum = c.set_settled.ensures.sum;
      rest = record {
        same_length = c.set_settled.ensures.rest.same_length ∙ c.make_extension.ensures.rest.same_length;
        same_byte = λ b k l un. c.set_settled.ensures.rest.same_byte b k l (λ x. un (inr x)) ∙ c.make_extension.ensures.rest.same_byte b k l (λ x. un (inl x));
      };
    }
