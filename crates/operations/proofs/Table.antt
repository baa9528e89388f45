-- The table of forms is right: each form, filled with the arguments, is its operation's template.
use Prim.Native.Nat.{ℕ}
use mathlib.Core.Bool.{Bool, true, false}
use mathlib.Core.Path.{◌≡◌, refl, ap, ◌∙◌}
use mathlib.Core.List.{List, ◌++◌, append_assoc}
use Rattle.text.specs.Text.{Text, bytes, flat}
use Rattle.text.specs.Buffer.{Wrote}
use Rattle.text.proofs.Laws.{same}
use Rattle.combiners.specs.Arguments.{texel_name, arg_text}
use Rattle.combiners.specs.Combiners.{op_text, expression_text}
use Rattle.combiners.specs.declared.Op.{Op}
use Rattle.combiners.specs.declared.Op.TheVariants.{SelectArg1, SelectArg2, Modulate, Modulate2X, Modulate4X, Add, AddSigned, AddSigned2X, Subtract, AddSmooth, BlendDiffuseAlpha, BlendTextureAlpha, BlendFactorAlpha, BlendTextureAlphaPM, BlendCurrentAlpha, ModulateAlphaAddColor, ModulateColorAddAlpha, ModulateInvAlphaAddColor, ModulateInvColorAddAlpha, DotProduct3, Other, MultiplyAdd, Lerp}
use Rattle.combiners.specs.declared.Expression.{Expression}
use Rattle.operations.specs.declared.forms.Form.{Form}
use Rattle.operations.specs.Forms.{form_text, form_of}

module _ (i : ℕ) (a b z : Text) where
  pub right : (o : Op) (textured : Bool) → flat (form_text i a b z (form_of textured o)) ≡ flat (op_text i textured o a b z)
  unfolding op_text texel_name
  right SelectArg1 textured = refl
  right SelectArg2 textured = refl
  right Modulate textured = refl
  right Modulate2X textured = refl
  right Modulate4X textured = refl
  right Add textured = refl
  right AddSigned textured = refl
  right AddSigned2X textured = refl
  right Subtract textured = refl
  right AddSmooth textured = refl
  right BlendDiffuseAlpha textured = refl
  right BlendTextureAlpha true = refl
  right BlendTextureAlpha false = refl
  right BlendFactorAlpha textured = refl
  right BlendTextureAlphaPM true = refl
  right BlendTextureAlphaPM false = refl
  right BlendCurrentAlpha textured = refl
  right ModulateAlphaAddColor textured =
      ap (λ (l : List ℕ). bytes "saturate(" ++ (flat a ++ (bytes " + (" ++ l))) (append_assoc (flat a) (bytes ").a * ") (flat b ++ bytes ")"))
  right ModulateColorAddAlpha textured = refl
  right ModulateInvAlphaAddColor textured =
      ap (λ (l : List ℕ). bytes "saturate(" ++ (flat a ++ (bytes " + (1.0 - (" ++ l))) (append_assoc (flat a) (bytes ").a) * ") (flat b ++ bytes ")"))
  right ModulateInvColorAddAlpha textured = refl
  right DotProduct3 textured = refl
  right Other textured = refl
  right MultiplyAdd textured = ap (λ (l : List ℕ). bytes "saturate(" ++ l) (append_assoc (flat z) (bytes " + ") _)
  right Lerp textured =
      ap (λ (l : List ℕ). bytes "(" ++ l)
      (append_assoc (flat z) (bytes " * ") _
      ∙ ap (λ (l : List ℕ). flat z ++ (bytes " * " ++ (flat a ++ (bytes " + (1.0 - " ++ l)))) (append_assoc (flat z) (bytes ") * ") (flat b ++ bytes ")")))

-- what is written in an operation's form is its expression
pub in_form : {l l' : List ℕ} {at at' : ℕ} (i : ℕ) (textured : Bool) (e : Expression) (f : Form) → f ≡ form_of textured e.op
    → Wrote l at l' at' (form_text i (arg_text i e.arg1) (arg_text i e.arg2) (arg_text i e.arg0) f)
    → Wrote l at l' at' (expression_text i textured e)
unfolding expression_text
in_form i textured e f h w = same (rw h (right i (arg_text i e.arg1) (arg_text i e.arg2) (arg_text i e.arg0) e.op textured)) w
