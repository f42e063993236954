-- `View::of` keeps where the text stands and how long it is.
use base.Fml.{ftrue, flft}
use types.Kit.{‵, ◌⊛◌, ◌$◌, ◌∵◌, !, qed, done, move, keep, join, split, fjoin, fpack, feq_i, suffices}
use types.Part.{whole, sub, agg}
use denote.Exit.{yes}
use denote.RattleType.{Valss}
use denote.RawPtr.{RawPtr, block_ptr, ptr_val}
use denote.Struct.Struct.{within}
use denote.Triple.Walked.{Stays, says, stay_dropped, Goes-dropped, walk_of, ends_at}
use Rattle.std.proofs.Common.{List, [], ◌∷◌, refl, length, w64}
use Rattle.std.proofs.raw_atomic.Walks.{proved}
use mir.Syntax.{named}
use mir.Val.{Val, vstruct, vcons, vnil, Fits, vint}
use types.Run.{and_then, enter, fld, no_more, of_opd, returns, stop, addr, from, hop}
use types.ByLocal.{alloc_all, pass_all, free_all, look_at, get, get_in, sets, look_in_at}
use denote.Builtin.{u8, usize}
use denote.Plain.{uint_Makes}
use denote.Signature.{plain, shr_slice_of}
use denote.Slice.{ShrSlice, shr_slice_vals, shr_slice_Tells}
use denote.Steps.{nothing, owned}
use denote.Struct.Declared.{shape}
use Rattle.rl_ffi.specs.contracts.view.View as view
use Rattle.rl_ffi.specs.contracts.view.View.of as f
use Rattle.rl_ffi.proofs.view.View.of.Statement.{statement}
use Rattle.rl_ffi.proofs.view.View.of.Code as code

abbrev stayed : Stays f.ended.signature.params f.ended.kept
stayed = (stay_dropped (shr_slice_of (0 ∷ []) tt (plain (λ _. u8))) yes, tt)

pub of_spec : {M : Type 1} → statement M
of_spec 𝓤 𝓛 𝓜 𝓡 wired =
    let c = f.clauses 𝓛 𝓜.mem 𝓡.returns in let W = walk_of 𝓛 f.ended stayed c in
    proved 𝓛 f.ended stayed c 𝓜 𝓡 (Goes-dropped 𝓛 1 (shr_slice_of (0 ∷ []) tt (plain (λ _. u8))) yes (λ κs x w. refl), tt)
    f.Key.name code.function (code.unfolded 𝓤 𝓛.H 𝓜 𝓡 wired)
    (λ κs. (shr_slice_vals, tt)) (λ κs. (shr_slice_Tells (named 0) κs.0 u8, tt)) (λ κs qs bounds a _ are.
    let p = block_ptr a.0.ref_ptr.0 a.0.ref_ptr.1 in let n = length a.0.now in
    let y : W.Ghost = ((κs, qs, bounds, a, (shr_slice_vals a.0, tt)), tt) in
    let w : Val = vstruct (vcons (ptr_val p) (vcons (vint w64 n) vnil)) in
    let d : view.the_row.Denot = record { at = p; len = n } in
    let fits : Fits w64 n = record { fits = are.0.0.1.0 } in
    qed 𝓛 (((‵ (flft κs.0 qs.0) ⊛ ‵ ftrue) ⊛ ‵ ((ShrSlice (named 0) κs.0 u8).own_val a.0 (shr_slice_vals a.0)) ⊛ ‵ ftrue) ∷ ‵ ftrue ∷ []) ∵
    split ! $ keep ! (0 ∷ []) $
    enter ! _ _ _ _ _ $ alloc_all ! (λ l. pass_all ! refl ((tt, (tt, (fits, tt))), tt) $
    sets ! (addr ! (from ! (fld ! refl (hop ! (look_in_at ! 1 (sub ! 0 refl (whole !))) (stop !))))) refl (tt, tt) $
    sets ! (of_opd ! (get_in ! (fld ! refl (stop !)) (sub ! 1 refl (whole !)))) refl (tt, fits) $
    sets ! (agg ! (and_then ! (get ! refl) (and_then ! (get ! refl) (no_more !)))) refl (tt, (tt, (fits, tt))) $
    returns ! (look_at ! 0 refl) $ free_all ! refl $
    suffices ! _ (ends_at 𝓛 f.ended stayed c y w d (tt, tt) (tt, tt)) $ says ! (refl, refl) $
    nothing ! $ owned ! usize _ (uint_Makes 𝓛 w64) n (vint w64 n ∷ []) (refl, are.0.0.1.0) $ fjoin ! $
    feq_i ! (List Val) (ptr_val p ∷ []) (ptr_val p ∷ []) refl $ fjoin ! $ feq_i ! (List Val) (w ∷ []) (w ∷ []) refl $ fjoin ! $
    fpack ! (Valss (RawPtr ∷ usize ∷ [])) (within (shape view.the_type) (view.the_type.to d) (w ∷ [])) (ptr_val p ∷ [], (vint w64 n ∷ [], tt)) $
    nothing ! $ nothing ! $ join ! $ join ! $ move ! (1 ∷ 0 ∷ []) $ join ! $ done !))
