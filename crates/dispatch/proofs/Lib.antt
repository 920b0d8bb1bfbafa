mod Applies
