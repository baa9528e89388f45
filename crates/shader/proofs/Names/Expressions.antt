-- The uses in a stage's line: what its expressions read, they name.
use Prim.Native.Nat.{ℕ, ◌<◌}
use Prim.Native.String.{String}
use mathlib.Core.Path.{◌≡◌, refl, sym, ap, ◌∙◌, subst}
use mathlib.Core.List.{List, [], ◌∷◌, append_assoc}
use mathlib.Core.Bool.{Bool, true, false, not, ◌&&◌, ◌||◌, cond}
use lib.Dec.{T, eqb, eqb→eq}
use Rattle.text.specs.Text.{Text, ◌⊕◌, when, lit, bytes, flat}
use Rattle.text.specs.Format.{Piece, words, slot, cut, Slot, find, piece_text, fill}
use Rattle.text.proofs.Slots.{is_slot, mentions}
use Rattle.combiners.specs.Codes.{disable, selector, texture, temp}
use Rattle.combiners.specs.Arguments.{texel_name, source_of, arg_of, source_text, replicated, arg_text}
use Rattle.combiners.specs.Combiners.{op_of, template, op_text, expression_text, keeps_first, keeps_second, three_operands, reads_own_texel}
use Rattle.combiners.specs.declared.Arg.{Arg}
use Rattle.combiners.specs.declared.Expression.{Expression}
use Rattle.cascade.specs.Keys.{textured, to_temp, selects, falls_back, is_bump_op, bump, alpha_from_colour}
use Rattle.cascade.specs.Stages.{arg0_of, combined, expression_of, alpha_of, decode, line_text}
use Rattle.cascade.specs.Reading.{keeps, reads_temp_by, reads_texel_by, alpha_written, reads_temp, reads_texel, lined}
use Rattle.values.specs.declared.Combiner.{Combiner}
use Rattle.values.specs.declared.Stage.{Stage}
use Rattle.cascade.specs.declared.Alpha.{Alpha}
use Rattle.cascade.specs.declared.Alpha.TheVariants.{FromColour, Kept, Written}
use Rattle.shader.specs.Whole.{stage_line}
use Rattle.values.specs.Listed.{Name}
use Rattle.shader.proofs.Names.Truth.{true_of, false_of, and_fst, and_snd, either, other, implied}
use Rattle.shader.proofs.Names.Words.{the, Word, word_of}
use Rattle.shader.proofs.Names.Templates.{same_bytes}
use Rattle.shader.proofs.Names.Arguments.{texel, texel_word}
use Rattle.shader.proofs.Names.Operations.{every_code, operands, mentions_kept_lem}
use Rattle.shader.proofs.Names.Mentions.{Mentions, Finds, name_finds, pick_finds, shaped, filling, pieces_finds, format_finds, line_mentions}

-- what fills a slot of a template is what stands for it
module _ (v : String) (f : List Slot) where
  slot_found : (p : Piece) → T (is_slot v p) → piece_text f p ≡ find f (bytes v)
  slot_found (words w) t = absurd t
  slot_found (slot w) t = ap (find f) (sym (same_bytes (bytes v) w t))

  first_found : (p q : Piece) (r : List Piece) (b : Bool) → (T b → piece_text f p ≡ find f (bytes v))
      → (T (mentions v (q ∷ r)) → filling v (q ∷ r) (fill f (q ∷ r)) ≡ find f (bytes v)) → T (b || mentions v (q ∷ r))
      → cond b (piece_text f p) (filling v (q ∷ r) (fill f (q ∷ r))) ≡ find f (bytes v)
  first_found p q r true g h t = g tt
  first_found p q r false g h t = h t

  fill_found : (ps : List Piece) → T (mentions v ps) → filling v ps (fill f ps) ≡ find f (bytes v)
  fill_found [] t = absurd t
  fill_found (p ∷ []) t = either (is_slot v p) false (slot_found p) (λ e. absurd e) t
  fill_found (p ∷ (q ∷ r)) t = first_found p q r (is_slot v p) (slot_found p) (fill_found (q ∷ r)) t

-- each slot that the template of an operation has can be reached, by one test over the codes
abbrev reaches : String → List Slot → List Piece → Bool
reaches v f ps = not (mentions v ps) || shaped v ps (fill f ps)

abbrev reaches_all : List Slot → List Piece → Bool
reaches_all f ps = reaches "a" f ps && (reaches "b" f ps && (reaches "t" f ps && reaches "z" f ps))

every_reached : (tex : Bool) (f : List Slot) (c : ℕ) → T (reaches_all f (cut (template (op_of c) tex)))
every_reached true f = every_code (λ c o. reaches_all f (cut (template o true))) tt (λ c h. tt)
every_reached false f = every_code (λ c o. reaches_all f (cut (template o false))) tt (λ c h. tt)

-- the text of an operation uses what the operands that it mentions use
module _ (i : ℕ) (tex : Bool) (c : ℕ) (a b z : Text) where
  abbrev slots : List Slot
  slots = operands a b (texel_name i) z

  abbrev pieces : List Piece
  pieces = cut (template (op_of c) tex)

  by_slot : {n : Name} (v : String) → T (reaches v slots pieces) → T (mentions v pieces) → Finds n (find slots (bytes v))
      → Finds n (op_text i tex (op_of c) a b z)
  unfolding op_text
  by_slot v t m x =
      pieces_finds v pieces (implied (mentions v pieces) _ t m) (rw (fill_found v slots pieces m) x)

  all_reached : T (reaches_all slots pieces)
  all_reached = every_reached tex slots c

  behind_a : T (reaches "b" slots pieces && (reaches "t" slots pieces && reaches "z" slots pieces))
  behind_a = and_snd (reaches "a" slots pieces) _ all_reached

  behind_b : T (reaches "t" slots pieces && reaches "z" slots pieces)
  behind_b = and_snd (reaches "b" slots pieces) _ behind_a

  first_finds : {n : Name} → T (keeps_first tex c) → Finds n a → Finds n (op_text i tex (op_of c) a b z)
  first_finds t x = by_slot "a" (and_fst (reaches "a" slots pieces) _ all_reached) (subst T (sym (mentions_kept_lem tex c).first) t) x

  second_finds : {n : Name} → T (keeps_second tex c) → Finds n b → Finds n (op_text i tex (op_of c) a b z)
  second_finds t x = by_slot "b" (and_fst (reaches "b" slots pieces) _ behind_a) (subst T (sym (mentions_kept_lem tex c).second) t) x

  own_finds : {n : Name} → T (reads_own_texel tex c) → Finds n (texel_name i) → Finds n (op_text i tex (op_of c) a b z)
  own_finds t x = by_slot "t" (and_fst (reaches "t" slots pieces) _ behind_b) (subst T (sym (mentions_kept_lem tex c).texture) t) x

  third_finds : {n : Name} → T (three_operands c) → Finds n z → Finds n (op_text i tex (op_of c) a b z)
  third_finds t x = by_slot "z" (and_snd (reaches "t" slots pieces) _ behind_b) (subst T (sym (mentions_kept_lem tex c).third) t) x

-- an argument names its source
replicated_finds : {n : Name} (i : ℕ) (a : Arg) → Finds n (source_text i a.source) → Finds n (replicated i a)
unfolding replicated
replicated_finds {n} i a f = go a.replicate
  where
    S : Text
    S = source_text i a.source

    go : (d : Bool) → Finds n (S ⊕ when d (lit ".aaaa"))
    go true = format_finds "{source}{fields}" "source" tt f
    go false = record { on = λ b p r s. rw (append_assoc (flat S) [] r) (f.on b p r s) }

arg_finds : {n : Name} (i : ℕ) (a : Arg) → Finds n (source_text i a.source) → Finds n (arg_text i a)
unfolding arg_text
arg_finds i a f = let g = replicated_finds i a f in pick_finds (λ t. format_finds "(1.0 - {x})" "x" tt g) (λ t. g)

temp_word : Word (bytes "temp") (the "temp")
temp_word = word_of (the "temp") (bytes "temp") (λ b. tt)

temp_arg : (i : ℕ) (tex : Bool) (a : ℕ) → T (selects temp a) → Finds (the "temp") (arg_text i (arg_of tex a))
unfolding source_text
temp_arg i tex a t =
    arg_finds i (arg_of tex a)
    (subst (λ (s : ℕ). Finds (the "temp") (source_text i (source_of tex s))) (sym (eqb→eq (selector a) temp t)) (name_finds {t = lit "temp"} temp_word))

texel_finds : (i : ℕ) → i < 8 → Finds (texel i) (texel_name i)
texel_finds i l = name_finds {t = texel_name i} (texel_word i l)

texel_arg : (i : ℕ) → i < 8 → (tex : Bool) → T tex → (a : ℕ) → T (selects texture a) → Finds (texel i) (arg_text i (arg_of tex a))
unfolding source_text
texel_arg i l false u a t = absurd u
texel_arg i l true u a t =
    arg_finds i (arg_of true a)
    (subst (λ (s : ℕ). Finds (texel i) (source_text i (source_of true s))) (sym (eqb→eq (selector a) texture t)) (texel_finds i l))

-- an expression names what it keeps
module _ (i : ℕ) (tex : Bool) (c : Combiner) where
  abbrev arg1 : Text
  arg1 = arg_text i (arg_of tex c.arg1)

  abbrev arg2 : Text
  arg2 = arg_text i (arg_of tex c.arg2)

  abbrev arg0 : Text
  arg0 = arg_text i (arg0_of tex c)

  kept_finds : {n : Name} (k : ℕ) → ((a : ℕ) → T (selects k a) → Finds n (arg_text i (arg_of tex a))) → T (keeps k tex c)
      → Finds n (expression_text i tex (combined tex c))
  unfolding keeps expression_text
  kept_finds k g =
      either (keeps_first tex c.op && selects k c.arg1) _
      (λ t. first_finds i tex c.op arg1 arg2 arg0 (and_fst (keeps_first tex c.op) _ t) (g c.arg1 (and_snd (keeps_first tex c.op) _ t)))
      (either (keeps_second tex c.op && selects k c.arg2) _
      (λ t. second_finds i tex c.op arg1 arg2 arg0 (and_fst (keeps_second tex c.op) _ t) (g c.arg2 (and_snd (keeps_second tex c.op) _ t)))
      (λ t. let three = and_fst (three_operands c.op) _ t in
      third_finds i tex c.op arg1 arg2 arg0 three
      (rw (true_of (three_operands c.op) three) (g c.arg0 (and_snd (three_operands c.op) _ t)))))

  own_texel : {n : Name} → T (reads_own_texel tex c.op) → Finds n (texel_name i) → Finds n (expression_text i tex (combined tex c))
  unfolding expression_text
  own_texel t x = own_finds i tex c.op arg1 arg2 arg0 t x

  -- outside a fallback
  outside : {n : Name} → T (not (falls_back tex c)) → Finds n (expression_text i tex (combined tex c)) → Finds n (expression_text i tex (expression_of tex c))
  unfolding expression_of
  outside t x = rw (false_of (falls_back tex c) t) x

combined_temp : (i : ℕ) (tex : Bool) (c : Combiner) → T (reads_temp_by tex c) → Finds (the "temp") (expression_text i tex (combined tex c))
combined_temp i tex c t = kept_finds i tex c temp (temp_arg i tex) (and_snd (not (falls_back tex c)) _ t)

combined_texel : (i : ℕ) → i < 8 → (tex : Bool) (c : Combiner) → T tex → T (reads_texel_by tex c)
    → Finds (texel i) (expression_text i tex (combined tex c))
combined_texel i l tex c u t =
    either (keeps texture tex c) (reads_own_texel tex c.op) (kept_finds i tex c texture (texel_arg i l tex u))
    (λ k. own_texel i tex c k (texel_finds i l)) (and_snd (not (falls_back tex c)) _ t)

-- the line of a stage
module _ {n : Name} (i : ℕ) (tex temped : Bool) (colour : Expression) where
  colour_mentions : Finds n (expression_text i tex colour) → (a : Alpha) → Mentions n (flat (line_text i tex temped colour a))
  unfolding line_text
  colour_mentions f FromColour = line_mentions "    {result} = {colour};\n" "colour" (line_text i tex temped colour FromColour) tt f
  colour_mentions f Kept =
      line_mentions "    {result} = float4(({colour}).rgb, ({result}).a);\n" "colour" (line_text i tex temped colour Kept) tt f
  colour_mentions f (Written e) =
      line_mentions "    {result} = float4(({colour}).rgb, ({alpha}).a);\n" "colour" (line_text i tex temped colour (Written e)) tt f

  alpha_mentions : (e : Expression) → Finds n (expression_text i tex e) → Mentions n (flat (line_text i tex temped colour (Written e)))
  unfolding line_text
  alpha_mentions e f =
      line_mentions "    {result} = float4(({colour}).rgb, ({alpha}).a);\n" "alpha" (line_text i tex temped colour (Written e)) tt f

written_alpha : (s : Stage) → T (alpha_written s) → T (not (falls_back (textured s) s.alpha))
    → alpha_of s ≡ Written (combined (textured s) s.alpha)
unfolding alpha_of alpha_written
written_alpha s w f =
    let no_colour : alpha_from_colour s ≡ false = false_of _ (and_fst (not (alpha_from_colour s)) _ w) in
    let rest = and_snd (not (alpha_from_colour s)) _ w in
    let enabled : eqb s.alpha.op disable ≡ false = false_of _ (and_fst (not (eqb s.alpha.op disable)) _ rest) in
    let bound : falls_back (textured s) s.alpha ≡ false = false_of _ f in
    let no_bump : is_bump_op s.alpha.op ≡ false =
    false_of _ (other (falls_back (textured s) s.alpha) _ (and_snd (not (eqb s.alpha.op disable)) _ rest) f) in
    rw (no_colour, enabled, bound, no_bump)

module _ {n : Name} (alive : Bool) (i : ℕ) (s : Stage) (b : T (not (bump s))) (ln : T (lined alive s)) where
  -- a line that is written
  written_line_lem : ((a : Alpha) → alpha_of s ≡ a → Mentions n (flat (line_text i (textured s) (to_temp s) (expression_of (textured s) s.colour) a)))
      → Mentions n (flat (stage_line alive i s (decode s)))
  unfolding stage_line decode
  written_line_lem h = rw (false_of (bump s) b, true_of (lined alive s) ln) (h (alpha_of s) refl)

  -- by a colour or an alpha that reads
  reading_line : (by : Combiner → Bool)
      → ((c : Combiner) → T (by c) → T (not (falls_back (textured s) c)) × Finds n (expression_text i (textured s) (combined (textured s) c)))
      → T (by s.colour || (alpha_written s && by s.alpha)) → Mentions n (flat (stage_line alive i s (decode s)))
  reading_line by g =
      either (by s.colour) (alpha_written s && by s.alpha)
      (λ t. let x = g s.colour t in
      written_line_lem (λ a e. colour_mentions i (textured s) (to_temp s) _ (outside i (textured s) s.colour x.0 x.1) a))
      (λ t. let x = g s.alpha (and_snd (alpha_written s) _ t) in
      let w = written_alpha s (and_fst (alpha_written s) _ t) x.0 in
      written_line_lem (λ a e. subst (λ (y : Alpha). Mentions n (flat (line_text i (textured s) (to_temp s) (expression_of (textured s) s.colour) y)))
      (sym w ∙ e) (alpha_mentions i (textured s) (to_temp s) _ _ x.1)))

module _ (alive : Bool) (i : ℕ) (s : Stage) (b : T (not (bump s))) (ln : T (lined alive s)) where
  pub line_temp : T (reads_temp s) → Mentions (the "temp") (flat (stage_line alive i s (decode s)))
  unfolding reads_temp
  line_temp t =
      reading_line alive i s b ln (reads_temp_by (textured s))
      (λ c u. (and_fst (not (falls_back (textured s) c)) _ u, combined_temp i (textured s) c u)) t

  pub line_texel : i < 8 → T (textured s) → T (reads_texel s) → Mentions (texel i) (flat (stage_line alive i s (decode s)))
  unfolding reads_texel
  line_texel l x t =
      reading_line alive i s b ln (reads_texel_by (textured s))
      (λ c u. (and_fst (not (falls_back (textured s) c)) _ u, combined_texel i l (textured s) c x u)) t
